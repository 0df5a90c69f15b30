-- The limits of what is live, and of what lies on an actor, over every run.
use Rattle.std.specs.Prelude.{◌≡◌, refl, ℕ, ◌≤◌, ◌==◌, nat_le, max, Bool, true, false, not, ◌&&◌, ◌||◌, if◌then◌else◌, Option, Some, None, List, [], ◌∷◌, ◌++◌, map}
use Rattle.std.specs.List.{AllByRecursion, list_all}
use Rattle.std.proofs.Common.{arith, sym, ap, subst, ◌∙◌}
use Rattle.std.proofs.lemmas.Bool.{true≢false, and_parts, and_from, eqb-true, ltb-true, not-true}
use Rattle.snap_base.specs.declared.transactions.State.{State}
use Rattle.snap_base.specs.declared.transactions.Tx.{Tx}
use Rattle.protocol.specs.Fixed.{Fixed, Next, Go, Ended, base, is_reader}
use Rattle.protocol.specs.Facts.{Alone}
use Rattle.protocol.specs.Rivals.{Lock}
use Rattle.protocol.specs.Parts.{Joined, Status, Doomed, Act, Pair, Book, Declared, Batch, Committing, Settled, Outcome, Machine}
use Rattle.protocol.specs.Words.{holds, count, is_empty, act_of, is_value, is_doomed, is_live_status, is_live_act, is_live_batch, has_act, outcome_of, lock_of, floor_at}
use Rattle.protocol.specs.Numbers.{one_if}
use Rattle.protocol.specs.Spread.{raised, crossed_out, is_crossed}
use Rattle.protocol.specs.Verdicts.{died}
use Rattle.protocol.specs.Events.{Event, Form, Admit, Arrive, Ask, End, Note, Commit, Settle, Abort, Prepare, Vouch, Decide, Seal, Finish, Trim}
use Rattle.protocol.specs.Conditions.{IsAllowed, conditions}
use Rattle.protocol.specs.Effects.{after, cell_at}
use Rattle.protocol.specs.Runs.{IsRun, reached}
use Rattle.protocol.specs.OnBook as book
use Rattle.protocol.specs.OnDesk as desk
use Rattle.protocol.specs.History.{History}
use Rattle.protocol_laws.proofs.first.Lists.{all_of, weaker}
use Rattle.protocol_laws.proofs.first.PairsFound.{TidsAscend, each_act}
use Rattle.protocol_laws.proofs.machine.ControlWalk.{AllControls}
use Rattle.protocol_laws.proofs.machine.ActResults.{NoneActed}
use Rattle.protocol_laws.proofs.machine.ActsKept.{Acts}
use Rattle.protocol_laws.proofs.machine.EntriesKept.{Left, none_left}
use Rattle.protocol_laws.proofs.machine.AllGood.{along_good}
use Rattle.protocol_laws.proofs.machine.Good.{Given}
use Rattle.protocol_theorems.proofs.quiet.SubPlaces.{count_join}
use Rattle.protocol_theorems.proofs.quiet.LimitsHold.{count_cons, count_map}
use Rattle.protocol_laws.proofs.first.Statuses.{doomed_decided, doomed_sealed}

-- ---- batches that are live

marks_same : (a : ℕ) (ps : List Declared) → list_all (λ p. p.trimmed) (map (λ p. desk.mark_if (p.actor == a) desk.is_noted p) ps) ≡ list_all (λ p. p.trimmed) ps
marks_same a [] = refl
marks_same a (p ∷ ps) = ap (λ b. b && list_all (λ p. p.trimmed) (map (λ p. desk.mark_if (p.actor == a) desk.is_noted p) ps)) (by (p.actor == a)) ∙ ap (λ b. p.trimmed && b) (marks_same a ps)
  where
    by : (b : Bool) → (desk.mark_if b desk.is_noted p).trimmed ≡ p.trimmed
    by true = refl
    by false = refl

marks_more : (a : ℕ) (ps : List Declared) → list_all (λ p. p.trimmed) ps ≡ true → list_all (λ p. p.trimmed) (map (λ p. desk.mark_if (p.actor == a) desk.is_trimmed p) ps) ≡ true
marks_more a [] h = refl
marks_more a (p ∷ ps) h = let q = and_parts p.trimmed (list_all (λ p. p.trimmed) ps) h in and_from _ _ (by (p.actor == a) q.0) (marks_more a ps q.1)
  where
    by : (b : Bool) → p.trimmed ≡ true → (desk.mark_if b desk.is_trimmed p).trimmed ≡ true
    by true k = refl
    by false k = k

changed_live : (k : ℕ) (f : Batch → Batch) → ((b : Batch) → is_live_batch (f b) ≡ true → is_live_batch b ≡ true) → (bs : List Batch) → count is_live_batch (desk.changed_batch k f bs) ≤ count is_live_batch bs
changed_live k f h bs = count_map is_live_batch (λ b. desk.change_if (b.bid == k) f b) bs (each bs)
  where
    by : (c : Bool) (b : Batch) → is_live_batch (desk.change_if c f b) ≡ true → is_live_batch b ≡ true
    by true b e = h b e
    by false b e = e

    each : (bs : List Batch) → AllByRecursion (λ b. is_live_batch (desk.change_if (b.bid == k) f b) ≡ true → is_live_batch b ≡ true) bs
    each [] = tt
    each (b ∷ bs) = (by (b.bid == k) b, each bs)

note_live : (a : ℕ) (b : Batch) → is_live_batch (desk.marked a desk.is_noted b) ≡ true → is_live_batch b ≡ true
note_live a b e = ap (λ z. not b.aborted && not z) (sym (marks_same a b.places)) ∙ e

trim_live : (a : ℕ) (b : Batch) → is_live_batch (desk.marked a desk.is_trimmed b) ≡ true → is_live_batch b ≡ true
trim_live a b e =
    let q = and_parts (not b.aborted) (not (list_all (λ p. p.trimmed) (map (λ p. desk.mark_if (p.actor == a) desk.is_trimmed p) b.places))) e in
    and_from (not b.aborted) _ q.0 (by (list_all (λ p. p.trimmed) b.places) refl q.1)
  where
    by : (v : Bool) → list_all (λ p. p.trimmed) b.places ≡ v → not (list_all (λ p. p.trimmed) (map (λ p. desk.mark_if (p.actor == a) desk.is_trimmed p) b.places)) ≡ true → not v ≡ true
    by false f g = refl
    by true f g = absurd (true≢false (sym (marks_more a b.places f) ∙ not-true _ g))

taken_live : (k : ℕ) (b : Batch) → is_live_batch (desk.taken k b) ≡ true → is_live_batch b ≡ true
taken_live k b e = by b.aborted (nat_le k b.bid) e
  where
    by : (v u : Bool) → (not (v || u) && not (list_all (λ p. p.trimmed) b.places)) ≡ true → (not v && not (list_all (λ p. p.trimmed) b.places)) ≡ true
    by true u f = f
    by false true f = absurd (true≢false (sym f))
    by false false f = f

ended_live : {C : Type 0} (t : ℕ) (b : Bool) (x : Option (Outcome C)) (d : Rattle.protocol.specs.Parts.Desk) → count is_live_batch (desk.pact_ended t b x d).batches ≤ count is_live_batch d.batches
ended_live t true x d = omega arith
ended_live t false None d = omega arith
ended_live {C} t false (Some x) d = by x.next
  where
    by : (n : Next C) → count is_live_batch (desk.noted_for t n d.batches) ≤ count is_live_batch d.batches
    by (Go b control) = omega arith
    by (Ended r) = count_map is_live_batch (desk.with_results t r) d.batches (all_of _ d.batches (λ b e. e))

pub live_batches : {C : Type 0} (w : Fixed C) (e : Event) (s : Machine C) → IsAllowed w e s → count is_live_batch s.desk.batches ≤ w.text.batches → count is_live_batch (after w e s).desk.batches ≤ w.text.batches
unfolding conditions after
live_batches w (Form k) s ok h =
    let new = desk.new_batch k (Rattle.protocol.specs.OnRing.next_actors w.text s.ring) (Rattle.protocol.specs.OnRing.next_pacts w.text s.ring) in
    omega (arith, count_join is_live_batch s.desk.batches (new ∷ []), count_cons is_live_batch new [], one (is_live_batch new), ltb-true (count is_live_batch s.desk.batches) w.text.batches ok.1.1.0)
  where
    one : (b : Bool) → one_if b ≤ 1
    one true = omega arith
    one false = omega arith
live_batches w (End t a) s ok h = omega (arith, h, ended_live t (has_act t (cell_at s a).entries) (outcome_of t (cell_at s a).outbox) s.desk)
live_batches w (Note k a) s ok h = omega (arith, h, changed_live k (desk.marked a desk.is_noted) (note_live a) s.desk.batches)
live_batches w (Commit k) s ok h = omega (arith, h, changed_live k (desk.with_stage Committing) (λ b e. e) s.desk.batches)
live_batches w (Settle k) s ok h = omega (arith, h, changed_live k (desk.with_stage Settled) (λ b e. e) s.desk.batches)
live_batches w (Abort k) s ok h = omega (arith, h, count_map is_live_batch (desk.taken k) s.desk.batches (all_of _ s.desk.batches (taken_live k)))
live_batches w (Trim k a) s ok h = omega (arith, h, changed_live k (desk.marked a desk.is_trimmed) (trim_live a) s.desk.batches)
live_batches w e s ok h = h

-- ---- ACTs that are live

restated : (x : Act) (st : Status) → (is_doomed x.status ≡ true → is_doomed st ≡ true) → is_live_act (record x { status = st }) ≡ true → is_live_act x ≡ true
restated x st k e = by x.places e
  where
    flip : (b c : Bool) → (b ≡ true → c ≡ true) → not c ≡ true → not b ≡ true
    flip true c f g = absurd (true≢false (sym (f refl) ∙ not-true c g))
    flip false c f g = refl

    by : (ps : List Joined) → not (if is_empty ps then is_doomed st else list_all (λ p. p.finished) ps) ≡ true → not (if is_empty ps then is_doomed x.status else list_all (λ p. p.finished) ps) ≡ true
    by [] g = flip (is_doomed x.status) (is_doomed st) k g
    by (p ∷ ps) g = g

doom_or : (b : Bool) (why : Rattle.snap_base.specs.declared.verdicts.Verdict.Verdict) (st : Status) → is_doomed st ≡ true → is_doomed (if b then Doomed why else st) ≡ true
doom_or true why st h = refl
doom_or false why st h = h

-- a mark never takes back that it has left
marked_live : (a : ℕ) (f : Joined → Joined) → ((p : Joined) → p.finished ≡ true → (f p).finished ≡ true) → (x : Act) → is_live_act (book.marked a f x) ≡ true → is_live_act x ≡ true
marked_live a f h x e = by x.places e
  where
    one : (b : Bool) (p : Joined) → p.finished ≡ true → (book.mark_if b f p).finished ≡ true
    one true p k = h p k
    one false p k = k

    all : (ps : List Joined) → list_all (λ p. p.finished) ps ≡ true → list_all (λ p. p.finished) (map (λ p. book.mark_if (p.actor == a) f p) ps) ≡ true
    all [] k = refl
    all (p ∷ ps) k = let q = and_parts p.finished (list_all (λ p. p.finished) ps) k in and_from _ _ (one (p.actor == a) p q.0) (all ps q.1)

    flip : (ps : List Joined) (b : Bool) → list_all (λ p. p.finished) ps ≡ b → not (list_all (λ p. p.finished) (map (λ p. book.mark_if (p.actor == a) f p) ps)) ≡ true → not b ≡ true
    flip ps false k g = refl
    flip ps true k g = absurd (true≢false (sym (all ps k) ∙ not-true _ g))

    by : (ps : List Joined) → not (if is_empty (map (λ p. book.mark_if (p.actor == a) f p) ps) then is_doomed x.status else list_all (λ p. p.finished) (map (λ p. book.mark_if (p.actor == a) f p) ps)) ≡ true → not (if is_empty ps then is_doomed x.status else list_all (λ p. p.finished) ps) ≡ true
    by [] g = g
    by (p ∷ ps) g = flip (p ∷ ps) _ refl g

changed_act : (t : ℕ) (f : Act → Act) (xs : List Act) → AllByRecursion (λ x. (x.tid == t) ≡ true → is_live_act (f x) ≡ true → is_live_act x ≡ true) xs → count is_live_act (book.changed_act t f xs) ≤ count is_live_act xs
changed_act t f xs h = count_map is_live_act (λ x. book.change_if (x.tid == t) f x) xs (weaker _ _ xs (λ x k. by x (x.tid == t) refl k) h)
  where
    by : (x : Act) (b : Bool) → (x.tid == t) ≡ b → ((x.tid == t) ≡ true → is_live_act (f x) ≡ true → is_live_act x ≡ true) → is_live_act (book.change_if b f x) ≡ true → is_live_act x ≡ true
    by x true q k e = k q e
    by x false q k e = e

changed_any : (t : ℕ) (f : Act → Act) (xs : List Act) → ((x : Act) → is_live_act (f x) ≡ true → is_live_act x ≡ true) → count is_live_act (book.changed_act t f xs) ≤ count is_live_act xs
changed_any t f xs h = changed_act t f xs (all_of _ xs (λ x q e. h x e))

raised_count : (ps : List Pair) (xs : List Act) → count is_live_act (raised ps xs) ≤ count is_live_act xs
raised_count ps [] = omega arith
raised_count ps (x ∷ xs) = omega (arith, raised_count ps xs, count_cons is_live_act x xs, count_cons is_live_act (record x { m = max x.m (Rattle.protocol.specs.Spread.carried ps x (raised ps xs)) }) (raised ps xs))

crossed_count : (a : ℕ) (xs : List Act) → count is_live_act (map (crossed_out a) xs) ≤ count is_live_act xs
crossed_count a xs = count_map is_live_act (crossed_out a) xs (all_of _ xs (λ x e. restated x _ (doom_or (is_crossed x) _ x.status) e))

asked_count : (o : Option ℕ) (group : List Lock) (t a m : ℕ) (b : Book) → AllByRecursion (λ x. (x.tid == t) ≡ true → is_live_act x ≡ true) b.acts → count is_live_act (book.asked_acts o group t a m b) ≤ count is_live_act b.acts
asked_count (Some older) group t a m b h = changed_any t (book.doomed_by (died a older t)) b.acts (λ x e. restated x _ (doom_or (is_live_status x.status) _ x.status) e)
asked_count None group t a m b h =
    let joined = book.changed_act t (book.joins a m) b.acts in
    let ps = b.pairs ++ book.new_pairs t a group b.acts in
    omega (arith, crossed_count a (raised ps joined), raised_count ps joined, changed_act t (book.joins a m) b.acts (weaker _ _ b.acts (λ x k q e. k q) h))

noted_count : {C : Type 0} (t : ℕ) (b : Bool) (x : Option (Outcome C)) (d : Book) → count is_live_act (book.act_ended t b x d).acts ≤ count is_live_act d.acts
noted_count t false x d = omega arith
noted_count t true None d = omega arith
noted_count {C} t true (Some x) d = by x.next
  where
    by : (n : Next C) → count is_live_act (book.noted_for t n d.acts) ≤ count is_live_act d.acts
    by (Go b control) = omega arith
    by (Ended r) = changed_any t (book.with_result r) d.acts (λ x e. e)

-- an ACT that asks is live
asker_live : {C : Type 0} (w : Fixed C) (t a : ℕ) (s : Machine C) (h : History) → IsAllowed w (Ask t a) s → AllControls (NoneActed s) s → Acts s h → Left s → (x : Act) → act_of t s.book.acts ≡ Some x → is_live_act x ≡ true
unfolding conditions
asker_live w t a s h ok n i l x e =
    by x.places (none_left w s h t a x ok n i l e) (not-true (is_doomed x.status) (subst (λ z. holds (λ x. not (is_doomed x.status)) z ≡ true) e ok.1.0))
  where
    by : (ps : List Joined) → AllByRecursion (λ p. p.finished ≡ false) ps → is_doomed x.status ≡ false → not (if is_empty ps then is_doomed x.status else list_all (λ p. p.finished) ps) ≡ true
    by [] f d = ap not d
    by (p ∷ ps) f d = ap (λ b. not (b && list_all (λ p. p.finished) ps)) f.0

pub live_acts : {C : Type 0} (w : Fixed C) (e : Event) (s : Machine C) (h : History) → IsAllowed w e s → AllControls (NoneActed s) s → Acts s h → Left s → TidsAscend s → count is_live_act s.book.acts ≤ w.text.acts → count is_live_act (after w e s).book.acts ≤ w.text.acts
unfolding conditions after
live_acts w (Admit t) s h ok n i l g k =
    let new = book.new_act t (Rattle.protocol.specs.OnPost.next_act s.ring) (is_reader w (Rattle.protocol.specs.OnPost.next_act s.ring)) (base w.text) in
    omega (arith, count_join is_live_act s.book.acts (new ∷ []), count_cons is_live_act new [], one (is_live_act new), ltb-true (count is_live_act s.book.acts) w.text.acts ok.1.1.0)
  where
    one : (b : Bool) → one_if b ≤ 1
    one true = omega arith
    one false = omega arith
live_acts w (Arrive j a) s h ok n i l g k =
    let behind = map (book.lowered j (book.tids_on (cell_at s a).entries)) s.book.acts in
    omega (arith, k, crossed_count a behind, count_map is_live_act (book.lowered j (book.tids_on (cell_at s a).entries)) s.book.acts (all_of _ s.book.acts (λ x e. e)))
live_acts w (Ask t a) s h ok n i l g k =
    omega (
      arith,
      k,
      asked_count (book.in_the_way (lock_of t s.book.acts) (cell_at s a).entries) (book.met (lock_of t s.book.acts) (cell_at s a).entries) t a (max (cell_at s a).last (floor_at t s.book.acts (cell_at s a))) s.book
          (each_act s (λ u x. (u == t) ≡ true → is_live_act x ≡ true) g (λ u x e q. asker_live w t a s h ok n i l x (subst (λ z. act_of z s.book.acts ≡ Some x) (eqb-true u t q) e))),
    )
live_acts w (End t a) s h ok n i l g k = omega (arith, k, noted_count t (has_act t (cell_at s a).entries) (outcome_of t (cell_at s a).outbox) s.book)
live_acts w (Abort j) s h ok n i l g k = omega (arith, k, count_map is_live_act (book.cascaded j (book.failed_tx (book.why j s.desk))) s.book.acts (all_of _ s.book.acts (λ x e. restated x _ (doom_or (is_live_status x.status && nat_le j x.m) _ x.status) e)))
live_acts w (Prepare t a) s h ok n i l g k = omega (arith, k, changed_any t (book.marked a book.is_prepared) s.book.acts (marked_live a book.is_prepared (λ p q. q)))
live_acts w (Vouch t a) s h ok n i l g k = omega (arith, k, changed_any t (book.marked a book.is_vouched) s.book.acts (marked_live a book.is_vouched (λ p q. q)))
live_acts w (Decide t) s h ok n i l g k = omega (arith, k, changed_any t (book.decided_as s.book.next_c) s.book.acts (λ x e. restated x _ (doomed_decided s.book.next_c (is_value x.result) x.status) e))
live_acts w (Seal t) s h ok n i l g k = omega (arith, k, changed_any t book.sealed s.book.acts (λ x e. restated x _ (doomed_sealed x.status) e))
live_acts w (Finish t a) s h ok n i l g k = omega (arith, k, changed_any t (book.marked a book.has_left) s.book.acts (marked_live a book.has_left (λ p q. refl)))
live_acts w e s h ok n i l g k = k

pub record LiveFew {C : Type 0} (w : Fixed C) (s : Machine C) : Type 0 where
  pub batches : count is_live_batch s.desk.batches ≤ w.text.batches
  pub acts : count is_live_act s.book.acts ≤ w.text.acts

pub live_few : {C : Type 0} (w : Fixed C) (Of : Tx → C → Type 0) (finish : C → List State → Alone) (es : List Event) → Given w Of finish → IsRun w es → LiveFew w (reached w es)
live_few w Of finish es v run = along_good w Of finish (λ s h. LiveFew w s) v
    (λ e s h ok g i. record { batches = live_batches w e s ok i.batches; acts = live_acts w e s h ok g.none g.acts g.left g.ascend i.acts })
    (record { batches = omega arith; acts = omega arith }) es run
