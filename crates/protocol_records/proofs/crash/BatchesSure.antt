-- A fact of each batch, event by event: what is noted is durable, and so on.
use Rattle.std.specs.Prelude.{◌≡◌, refl, ℕ, zero, suc, ◌%◌, ◌+◌, ◌<◌, ◌≤◌, ◌==◌, not, Bool, true, false, ◌&&◌, if◌then◌else◌, Option, Some, None, List, [], ◌∷◌, ◌++◌, map}
use Rattle.std.specs.List.{AllByRecursion}
use Rattle.std.proofs.Common.{arith, sym, ap, subst, inl, inr, ◌∙◌}
use Rattle.std.proofs.lemmas.Bool.{true≢false, eqb-true}
use Rattle.snap_base.specs.declared.transactions.TxResult.{TxResult}
use Rattle.protocol.specs.Fixed.{Fixed, Next, Go, Ended}
use Rattle.protocol.specs.Records.{LogRecord, BatchInfo, BatchComplete, BatchDone, ActPrepare, ActDone, is_info, is_complete, is_commit}
use Rattle.protocol.specs.Parts.{Act, Pact, Batch, Declared, Stage, Committing, Settled, Outcome, Log, Machine}
use Rattle.protocol.specs.Events.{Event, Form, End, Complete, Sync, Note, Commit, Settle, Abort, Prepare, Decide, Trim}
use Rattle.protocol.specs.Words.{is_value, act_of, batch_of, has_act, outcome_of, is_formed, value_of}
use Rattle.protocol.specs.Conditions.{IsAllowed, conditions, queue}
use Rattle.protocol.specs.Effects.{after, cell_at, act_commit}
use Rattle.protocol.specs.OnRing as ring
use Rattle.protocol.specs.OnDesk as desk
use Rattle.protocol_records.specs.Logged.{durable_at, BatchSure, EachBatch, BatchesSure, actors_of_batch, InfoIs, Infos}
use Rattle.protocol_laws.proofs.machine.MarksKept as marks
use Rattle.protocol_laws.proofs.first.EpochsKept as epochs
use Rattle.protocol_records.proofs.crash.Durable.{durable_stays, durable_is, all_added}
use Rattle.protocol_laws.proofs.first.Lists.{all_map, some_of, weaker}
use Rattle.protocol_laws.proofs.first.Statuses.{if_bid}
use Rattle.protocol_laws.proofs.machine.MarksKept.{log_synced}
use Rattle.protocol_laws.proofs.first.EpochsKept.{actors_of_new}

-- ---- any fact

pub record KeptBatch (P : ℕ → Batch → Type 0) : Type 0 where
  pub pacts : (k t : ℕ) (r : TxResult) (b : Batch) → P k b → P k (desk.with_results t r b)
  pub aborted : (k : ℕ) (b : Batch) (v : Bool) → P k b → P k (record b { aborted = v })
  pub trimmed : (k a : ℕ) (b : Batch) → P k b → P k (desk.marked a desk.is_trimmed b)

unfoldable pub ReadyBatch : {C : Type 0} → Fixed C → Event → Machine C → (ℕ → Batch → Type 0) → Type 0
ReadyBatch w (Form k) s P = P k (desk.new_batch k (ring.next_actors w.text s.ring) (ring.next_pacts w.text s.ring))
ReadyBatch w (Note k a) s P = (b : Batch) → batch_of k s.desk.batches ≡ Some b → P k b → P k (desk.marked a desk.is_noted b)
ReadyBatch w (Commit k) s P = (b : Batch) → batch_of k s.desk.batches ≡ Some b → P k b → P k (desk.with_stage Committing b)
ReadyBatch w (Settle k) s P = (b : Batch) → batch_of k s.desk.batches ≡ Some b → P k b → P k (desk.with_stage Settled b)
ReadyBatch w _ s P = Unit {0}

each_map : (P : ℕ → Batch → Type 0) (f : Batch → Batch) (bs : List Batch) → ((b : Batch) → (f b).bid ≡ b.bid) → ((k : ℕ) (b : Batch) → batch_of k bs ≡ Some b → P k b → P k (f b)) → EachBatch P bs → EachBatch P (map f bs)
each_map P f bs i k h = λ j c e. let g = marks.found_mapped f i j c bs e in subst (P j) g.2 (k j g.0 g.1 (h j g.0 g.1))

each_changed : (P : ℕ → Batch → Type 0) (k : ℕ) (f : Batch → Batch) (bs : List Batch) → ((b : Batch) → (f b).bid ≡ b.bid) → ((b : Batch) → batch_of k bs ≡ Some b → P k b → P k (f b)) → EachBatch P bs → EachBatch P (desk.changed_batch k f bs)
each_changed P k f bs i own h = each_map P (λ b. desk.change_if (b.bid == k) f b) bs (λ b. if_bid (b.bid == k) f b (i b)) (λ j b e p. by j b e p (b.bid == k) refl) h
  where
    by : (j : ℕ) (b : Batch) → batch_of j bs ≡ Some b → P j b → (v : Bool) → (b.bid == k) ≡ v → P j (desk.change_if v f b)
    by j b e p true q =
        let x : b.bid ≡ j = eqb-true b.bid j (marks.found_bid j b bs e) in
        let y : j ≡ k = sym x ∙ eqb-true b.bid k q in
        subst (λ z. P z (f b)) (sym y) (own b (subst (λ z. batch_of z bs ≡ Some b) y e) (subst (λ z. P z b) y p))
    by j b e p false q = p

pub batches_keep : {C : Type 0} (w : Fixed C) (e : Event) (s : Machine C) (P : ℕ → Batch → Type 0) → KeptBatch P → ReadyBatch w e s P → EachBatch P s.desk.batches → EachBatch P (after w e s).desk.batches
unfolding after ReadyBatch
batches_keep w (Form k) s P c r h = λ j b e. elim (marks.found_more j b (desk.new_batch k (ring.next_actors w.text s.ring) (ring.next_pacts w.text s.ring)) s.desk.batches e) [
  | inl q ↦ h j b q
  | inr q ↦ subst (P j) q.1 (subst (λ z. P z (desk.new_batch k (ring.next_actors w.text s.ring) (ring.next_pacts w.text s.ring))) (bid j b e q.1) r)
]
  where
    bid : (j : ℕ) (b : Batch) → batch_of j (s.desk.batches ++ desk.new_batch k (ring.next_actors w.text s.ring) (ring.next_pacts w.text s.ring) ∷ []) ≡ Some b → desk.new_batch k (ring.next_actors w.text s.ring) (ring.next_pacts w.text s.ring) ≡ b → k ≡ j
    bid j b e q = ap (λ z. z.bid) q ∙ eqb-true b.bid j (marks.found_bid j b _ e)
batches_keep {C} w (End t a) s P c r h = by (has_act t (cell_at s a).entries) (outcome_of t (cell_at s a).outbox)
  where
    next : (x : Next C) → EachBatch P (desk.noted_for t x s.desk.batches)
    next (Go b x) = h
    next (Ended v) = each_map P (desk.with_results t v) s.desk.batches (λ b. refl) (λ k b e p. c.pacts k t v b p) h

    by : (v : Bool) (o : Option (Outcome C)) → EachBatch P (if v then s.desk.batches else desk.noted_from t o s.desk.batches)
    by true o = h
    by false None = h
    by false (Some x) = next x.next
batches_keep w (Note k a) s P c r h = each_changed P k (desk.marked a desk.is_noted) s.desk.batches (λ b. refl) r h
batches_keep w (Commit k) s P c r h = each_changed P k (desk.with_stage Committing) s.desk.batches (λ b. refl) r h
batches_keep w (Settle k) s P c r h = each_changed P k (desk.with_stage Settled) s.desk.batches (λ b. refl) r h
batches_keep w (Abort k) s P c r h = each_map P (desk.taken k) s.desk.batches (λ b. refl) (λ j b e p. c.aborted j b _ p) h
batches_keep w (Trim k a) s P c r h = each_changed P k (desk.marked a desk.is_trimmed) s.desk.batches (λ b. refl) (λ b e p. c.trimmed k a b p) h
batches_keep w e s P c r h = h

-- ---- what is noted is durable

abbrev NotedSure : ℕ → List Log → ℕ → Declared → Type 0
NotedSure many logs k p = p.noted ≡ true → durable_at (is_complete k p.actor) logs (p.actor % many) ≡ true

trim_one : (many : ℕ) (logs : List Log) (k : ℕ) (v : Bool) (p : Declared) → NotedSure many logs k p → NotedSure many logs k (desk.mark_if v desk.is_trimmed p)
trim_one many logs k true p h = h
trim_one many logs k false p h = h

note_one : (many : ℕ) (logs : List Log) (k a : ℕ) (v : Bool) (p : Declared) → (p.actor == a) ≡ v → durable_at (is_complete k a) logs (a % many) ≡ true → NotedSure many logs k p → NotedSure many logs k (desk.mark_if v desk.is_noted p)
note_one many logs k a true p e d h = λ q. subst (λ z. durable_at (is_complete k z) logs (z % many) ≡ true) (sym (eqb-true p.actor a e)) d
note_one many logs k a false p e d h = h

kept_sure : (many : ℕ) (logs : List Log) → KeptBatch (BatchSure many logs)
kept_sure many logs = record {
  pacts = λ k t r b p. record { noted = p.noted; info = p.info; settled = p.settled };
  aborted = λ k b v p. record { noted = p.noted; info = p.info; settled = p.settled };
  trimmed = λ k a b p. record { noted = all_map (NotedSure many logs k) (NotedSure many logs k) _ b.places (λ x h. trim_one many logs k (x.actor == a) x h) p.noted; info = p.info; settled = p.settled };
}

grows : {C : Type 0} (w : Fixed C) (e : Event) (s : Machine C) → EachBatch (BatchSure w.text.logs s.logs) s.desk.batches → EachBatch (BatchSure w.text.logs (after w e s).logs) s.desk.batches
grows w e s h = λ k b q. let p = h k b q in record {
  noted = weaker (NotedSure w.text.logs s.logs k) (NotedSure w.text.logs (after w e s).logs k) b.places (λ x g v. durable_stays w e s _ _ (g v)) p.noted;
  info = λ v. durable_stays w e s _ _ (p.info v);
  settled = λ v. durable_stays w e s _ _ (p.settled v);
}

new_noted : (many : ℕ) (logs : List Log) (k : ℕ) (xs : List ℕ) → AllByRecursion (NotedSure many logs k) (map desk.new_declared xs)
new_noted many logs k [] = tt
new_noted many logs k (x ∷ xs) = ((λ q. absurd (true≢false (sym q))), new_noted many logs k xs)

committing_formed : (st : Stage) → (Rattle.protocol.specs.Words.is_committing st) ≡ true → is_formed st ≡ false
committing_formed Committing e = refl
committing_formed Settled e = refl
committing_formed _ e = absurd (true≢false (sym e))

pub sure_kept : {C : Type 0} (w : Fixed C) (e : Event) (s : Machine C) → IsAllowed w e s → BatchesSure w s → BatchesSure w (after w e s)
unfolding BatchesSure ReadyBatch conditions after
sure_kept w (Form k) s ok g = batches_keep w (Form k) s (BatchSure w.text.logs (after w (Form k) s).logs) (kept_sure w.text.logs _) (record { noted = new_noted w.text.logs _ k (ring.next_actors w.text s.ring); info = λ q. absurd (true≢false q); settled = λ q. absurd (true≢false (sym q)) }) (grows w (Form k) s g)
sure_kept w (Note k a) s ok g = batches_keep w (Note k a) s (BatchSure w.text.logs s.logs) (kept_sure w.text.logs _)
    (λ b e p. record { noted = all_map (NotedSure w.text.logs s.logs k) (NotedSure w.text.logs s.logs k) _ b.places (λ x h. note_one w.text.logs s.logs k a (x.actor == a) x refl (durable_is (is_complete k a) s.logs (a % w.text.logs) ok.1.0) h) p.noted; info = p.info; settled = p.settled }) g
sure_kept w (Commit k) s ok g = batches_keep w (Commit k) s (BatchSure w.text.logs (after w (Commit k) s).logs) (kept_sure w.text.logs _)
    (λ b e p. record { noted = p.noted; info = λ q. durable_stays w (Commit k) s (is_info k) (k % w.text.logs) (durable_is (is_info k) s.logs (k % w.text.logs) ok.1.1.1.0); settled = λ q. absurd (true≢false (sym q)) }) (grows w (Commit k) s g)
sure_kept w (Settle k) s ok g = batches_keep w (Settle k) s (BatchSure w.text.logs s.logs) (kept_sure w.text.logs _)
    (λ b e p. record {
      noted = p.noted;
      info = λ q. p.info (committing_formed b.stage (Rattle.std.proofs.lemmas.Bool.and_parts (Rattle.protocol.specs.Words.is_committing b.stage) (not b.aborted) (some_of (λ b. Rattle.protocol.specs.Words.is_committing b.stage && not b.aborted) (batch_of k s.desk.batches) b e ok.0)).0);
      settled = λ q. durable_is (is_commit k) s.logs (k % w.text.logs) ok.1.0;
    }) g
sure_kept w e s ok g = batches_keep w e s (BatchSure w.text.logs (after w e s).logs) (kept_sure w.text.logs _) tt (grows w e s g)

-- ---- records of batches have their actors

same_actors : (f : Batch → Batch) (bs : List Batch) → ((b : Batch) → (f b).bid ≡ b.bid) → ((b : Batch) → map (λ p. p.actor) (f b).places ≡ map (λ p. p.actor) b.places) → (k : ℕ) → actors_of_batch (batch_of k (map f bs)) ≡ actors_of_batch (batch_of k bs)
same_actors f [] i j k = refl
same_actors f (x ∷ bs) i j k = subst (λ z. actors_of_batch (if z == k then Some (f x) else batch_of k (map f bs)) ≡ actors_of_batch (if x.bid == k then Some x else batch_of k bs)) (sym (i x)) (by (x.bid == k) (same_actors f bs i j k))
  where
    by : (q : Bool) → actors_of_batch (batch_of k (map f bs)) ≡ actors_of_batch (batch_of k bs) → actors_of_batch (if q then Some (f x) else batch_of k (map f bs)) ≡ actors_of_batch (if q then Some x else batch_of k bs)
    by true h = ap Some (j x)
    by false h = h

marked_actors : (a : ℕ) (f : Declared → Declared) → ((p : Declared) → (f p).actor ≡ p.actor) → (b : Batch) → map (λ p. p.actor) (desk.marked a f b).places ≡ map (λ p. p.actor) b.places
marked_actors a f i b = Rattle.protocol_laws.proofs.first.Kept.batch_marked_kept (λ p. p.actor) a f b i

if_actors : (v : Bool) (f : Batch → Batch) (b : Batch) → map (λ p. p.actor) (f b).places ≡ map (λ p. p.actor) b.places → map (λ p. p.actor) (desk.change_if v f b).places ≡ map (λ p. p.actor) b.places
if_actors true f b h = h
if_actors false f b h = refl

changed_actors : (k j : ℕ) (f : Batch → Batch) (bs : List Batch) → ((b : Batch) → (f b).bid ≡ b.bid) → ((b : Batch) → map (λ p. p.actor) (f b).places ≡ map (λ p. p.actor) b.places) → actors_of_batch (batch_of j (desk.changed_batch k f bs)) ≡ actors_of_batch (batch_of j bs)
changed_actors k j f bs i e = same_actors (λ b. desk.change_if (b.bid == k) f b) bs (λ b. if_bid (b.bid == k) f b (i b)) (λ b. if_actors (b.bid == k) f b (e b)) j

more_actors : (k : ℕ) (n : Batch) (bs : List Batch) (xs : List ℕ) → actors_of_batch (batch_of k bs) ≡ Some xs → actors_of_batch (batch_of k (bs ++ n ∷ [])) ≡ Some xs
more_actors k n [] xs h = absurd (cc h)
more_actors k n (x ∷ bs) xs h = by (x.bid == k) h (more_actors k n bs xs)
  where
    by : (q : Bool) → actors_of_batch (if q then Some x else batch_of k bs) ≡ Some xs → (actors_of_batch (batch_of k bs) ≡ Some xs → actors_of_batch (batch_of k (bs ++ n ∷ [])) ≡ Some xs) → actors_of_batch (if q then Some x else batch_of k (bs ++ n ∷ [])) ≡ Some xs
    by true h r = h
    by false h r = r h

pub actors_stay : {C : Type 0} (w : Fixed C) (e : Event) (s : Machine C) (j : ℕ) (xs : List ℕ) → actors_of_batch (batch_of j s.desk.batches) ≡ Some xs → actors_of_batch (batch_of j (after w e s).desk.batches) ≡ Some xs
unfolding after
actors_stay w (Form k) s j xs h = more_actors j _ s.desk.batches xs h
actors_stay {C} w (End t a) s j xs h = by (has_act t (cell_at s a).entries) (outcome_of t (cell_at s a).outbox)
  where
    next : (x : Next C) → actors_of_batch (batch_of j (desk.noted_for t x s.desk.batches)) ≡ Some xs
    next (Go b x) = h
    next (Ended v) = same_actors (desk.with_results t v) s.desk.batches (λ b. refl) (λ b. refl) j ∙ h

    by : (v : Bool) (o : Option (Outcome C)) → actors_of_batch (batch_of j (if v then s.desk.batches else desk.noted_from t o s.desk.batches)) ≡ Some xs
    by true o = h
    by false None = h
    by false (Some x) = next x.next
actors_stay w (Note k a) s j xs h = changed_actors k j (desk.marked a desk.is_noted) s.desk.batches (λ b. refl) (λ b. marked_actors a desk.is_noted (λ p. refl) b) ∙ h
actors_stay w (Commit k) s j xs h = changed_actors k j (desk.with_stage Committing) s.desk.batches (λ b. refl) (λ b. refl) ∙ h
actors_stay w (Settle k) s j xs h = changed_actors k j (desk.with_stage Settled) s.desk.batches (λ b. refl) (λ b. refl) ∙ h
actors_stay w (Abort k) s j xs h = same_actors (desk.taken k) s.desk.batches (λ b. refl) (λ b. refl) j ∙ h
actors_stay w (Trim k a) s j xs h = changed_actors k j (desk.marked a desk.is_trimmed) s.desk.batches (λ b. refl) (λ b. marked_actors a desk.is_trimmed (λ p. refl) b) ∙ h
actors_stay w e s j xs h = h

-- ---- each record of a batch that was formed has its actors

infos_stay : {C : Type 0} (w : Fixed C) (e : Event) (s : Machine C) (rs : List LogRecord) → AllByRecursion (InfoIs s.desk.batches) rs → AllByRecursion (InfoIs (after w e s).desk.batches) rs
infos_stay w e s rs h = weaker (InfoIs s.desk.batches) (InfoIs (after w e s).desk.batches) rs (λ r p. one r p) h
  where
    one : (r : LogRecord) → InfoIs s.desk.batches r → InfoIs (after w e s).desk.batches r
    one (BatchInfo k actors tids) p = actors_stay w e s k actors p
    one (BatchComplete k a st) p = tt
    one (BatchDone k vs) p = tt
    one (ActPrepare t a st) p = tt
    one (ActDone t m c v actors) p = tt

no_info : (bs : List Batch) (c : ℕ) (o : Option Act) → AllByRecursion (InfoIs bs) (act_commit c o)
no_info bs c None = tt
no_info bs c (Some x) = by (is_value x.result)
  where
    by : (b : Bool) → AllByRecursion (InfoIs bs) (if b then ActDone x.tid x.m c (value_of x.result) (Rattle.protocol.specs.Effects.ascending (map (λ p. p.actor) x.places)) ∷ [] else [])
    by true = (tt, tt)
    by false = tt

-- none has its number yet
none_there : (k : ℕ) (n : Batch) (bs : List Batch) → n.bid ≡ k → AllByRecursion (λ j. j < k) (map (λ b. b.bid) bs) → batch_of k (bs ++ n ∷ []) ≡ Some n
none_there k n [] e h = rw (Rattle.std.proofs.lemmas.Bool.eq-eqb n.bid k e) refl
none_there k n (x ∷ bs) e h = let q : (x.bid == k) ≡ false = Rattle.std.proofs.lemmas.Bool.ne_eqb x.bid k (λ i. omega (arith, i, h.0)) in rw q (none_there k n bs e h.1)

pub infos_kept : {C : Type 0} (w : Fixed C) (e : Event) (s : Machine C) → IsAllowed w e s → epochs.Agreeing s → Infos s → Infos (after w e s)
unfolding Infos conditions after
infos_kept w (Form k) s ok ag g = λ l. all_added _ _ s.logs (k % w.text.logs) l (own, tt) (infos_stay w (Form k) s _ (g l))
  where
    new : Batch
    new = desk.new_batch k (ring.next_actors w.text s.ring) (ring.next_pacts w.text s.ring)

    own : actors_of_batch (batch_of k (s.desk.batches ++ desk.new_batch k (ring.next_actors w.text s.ring) (ring.next_pacts w.text s.ring) ∷ [])) ≡ Some (ring.next_actors w.text s.ring)
    own = ap actors_of_batch (none_there k new s.desk.batches refl (subst (λ z. AllByRecursion (λ j. j < z) (map (λ b. b.bid) s.desk.batches)) (sym (eqb-true k s.ring.next_bid ok.0)) (epochs.bids_below s ag))) ∙ ap Some (actors_of_new (ring.next_actors w.text s.ring))
infos_kept w (Complete k a) s ok ag g = λ l. all_added _ _ s.logs (a % w.text.logs) l (tt, tt) (infos_stay w (Complete k a) s _ (g l))
infos_kept w (Commit k) s ok ag g = λ l. all_added _ _ s.logs (k % w.text.logs) l (tt, tt) (infos_stay w (Commit k) s _ (g l))
infos_kept w (Prepare t a) s ok ag g = λ l. all_added _ _ s.logs (a % w.text.logs) l (tt, tt) (infos_stay w (Prepare t a) s _ (g l))
infos_kept w (Decide t) s ok ag g = λ l. all_added _ _ s.logs (t % w.text.logs) l (no_info _ s.book.next_c (act_of t s.book.acts)) (infos_stay w (Decide t) s _ (g l))
infos_kept w (Sync i) s ok ag g = λ l. subst (AllByRecursion (InfoIs s.desk.batches)) (sym (log_synced s.logs i l)) (g l)
infos_kept w e s ok ag g = λ l. infos_stay w e s _ (g l)

-- ---- a batch has PACTs

unfoldable pub Filled : {C : Type 0} → Machine C → Type 0
Filled s = EachBatch (λ k b. Rattle.protocol.specs.Words.is_empty b.pacts ≡ false) s.desk.batches

mapped_filled : (f : Pact → Pact) (ps : List Pact) → Rattle.protocol.specs.Words.is_empty ps ≡ false → Rattle.protocol.specs.Words.is_empty (map f ps) ≡ false
mapped_filled f [] h = absurd (true≢false h)
mapped_filled f (p ∷ ps) h = refl

holds_filled : KeptBatch (λ k b. Rattle.protocol.specs.Words.is_empty b.pacts ≡ false)
holds_filled = record {
  pacts = λ k t r b p. by t r b.aborted b.pacts p;
  aborted = λ k b v p. p;
  trimmed = λ k a b p. p;
}
  where
    by : (t : ℕ) (r : TxResult) (v : Bool) (ps : List Pact) → Rattle.protocol.specs.Words.is_empty ps ≡ false → Rattle.protocol.specs.Words.is_empty (if v then ps else map (desk.with_result t r) ps) ≡ false
    by t r true ps h = h
    by t r false ps h = mapped_filled (desk.with_result t r) ps h

numbered_filled : (t n : ℕ) (xs : List ℕ) → 1 ≤ n → not (Rattle.protocol.specs.Words.is_empty xs) ≡ true → Rattle.protocol.specs.Words.is_empty (ring.numbered t (Rattle.std.specs.Prelude.take n xs)) ≡ false
numbered_filled t zero xs l h = absurd (omega (arith, l))
numbered_filled t (suc n) [] l h = absurd (true≢false (sym h))
numbered_filled t (suc n) (x ∷ xs) l h = refl

pub filled_kept : {C : Type 0} (w : Fixed C) (e : Event) (s : Machine C) → 1 ≤ w.text.batch → IsAllowed w e s → Filled s → Filled (after w e s)
unfolding Filled ReadyBatch conditions
filled_kept w (Form k) s t ok g = batches_keep w (Form k) s _ holds_filled (numbered_filled s.ring.next_tid w.text.batch (queue s.ring.pacts s.ring.holder) t ok.1.0) g
filled_kept w (Note k a) s t ok g = batches_keep w (Note k a) s _ holds_filled (λ b e p. p) g
filled_kept w (Commit k) s t ok g = batches_keep w (Commit k) s _ holds_filled (λ b e p. p) g
filled_kept w (Settle k) s t ok g = batches_keep w (Settle k) s _ holds_filled (λ b e p. p) g
filled_kept w e s t ok g = batches_keep w e s _ holds_filled tt g
