-- Facts of each batch that is found by its number, and of complete marks, event by event.
use Rattle.std.specs.Prelude.{◌≡◌, refl, ℕ, zero, suc, ◌<◌, ◌≤◌, ◌%◌, ◌==◌, not, Bool, true, false, ◌&&◌, if◌then◌else◌, Option, Some, None, List, [], ◌∷◌, ◌++◌, length, map, filter, take, drop, replicate, slice_index_or, slice_set}
use Rattle.std.specs.List.{AllByRecursion, list_any, list_all}
use Rattle.std.proofs.Common.{arith, sym, ap, subst, inl, inr, ◌∙◌}
use Rattle.std.proofs.lemmas.List.{length-replicate}
use Rattle.std.proofs.lemmas.Bool.{and_parts, or_cases, true≢false, eqb-true, eq-eqb, cases_Bool}
use Rattle.snap_base.specs.declared.transactions.TxResult.{TxResult}
use Rattle.protocol.specs.Rivals.{Lock}
use Rattle.protocol.specs.Fixed.{Fixed, IsText, Next, Go, Ended, tx_at, is_pact, root, declared}
use Rattle.protocol.specs.Records.{BatchComplete, BatchDone, is_info, is_complete, is_commit}
use Rattle.protocol.specs.Parts.{Batch, Declared, Stage, Formed, Committing, Settled, PlacedBatch, SubBatch, Cascade, Entry, BatchEntry, ActEntry, Outcome, Machine}
use Rattle.protocol.specs.Events.{Event, Submit, Form, Arrive, Ask, Take, Run, Send, End, Close, Complete, Note, Commit, Settle, Abort, Rollback, Finish, Trim}
use Rattle.protocol.specs.Words.{holds, is_empty, values_of, is_among, below, is_open, is_formed, is_settled, is_committing, is_next_to_commit, is_durable, batch_of, declared_of, sub_of, has_act, outcome_of, is_batch_entry, is_act_entry, who_of, lock_of}
use Rattle.protocol.specs.Conditions.{IsAllowed, conditions, queue}
use Rattle.protocol.specs.Effects.{after, cell_at, no_cell, no_log, log_at}
use Rattle.protocol.specs.Numbers.{times, one_if}
use Rattle.protocol.specs.OnRing as ring
use Rattle.protocol.specs.OnBook as book
use Rattle.protocol.specs.OnDesk as desk
use Rattle.protocol.specs.OnCell as cell
use Rattle.protocol.specs.Runs.{opening}
use Rattle.protocol_laws.proofs.first.Kept.{batch_marked_kept}
use Rattle.protocol_laws.proofs.first.Times
use Rattle.protocol_laws.proofs.machine.MarksKept.{found_bid, found_mapped, found_more}
use Rattle.protocol_laws.proofs.machine.TracksKept.{held}
use Rattle.protocol_theorems.proofs.quiet.ActsKnown.{IsIn, stays, there_now, one_of, in_logs}
use Rattle.protocol_laws.proofs.first.Lists.{all_drop, all_filter, all_join, all_map, any_take, weaker}
use Rattle.protocol_laws.proofs.first.Statuses.{committing_not_formed, if_bid}
use Rattle.protocol_laws.proofs.first.EpochsKept.{below_all}
use Rattle.protocol_laws.proofs.machine.TrailsKept.{tx_is}

-- ---- each batch that is found

pub EachBatch : (ℕ → Batch → Type 0) → List Batch → Type 0
EachBatch P xs = (k : ℕ) (b : Batch) → batch_of k xs ≡ Some b → P k b

each_map : (P : ℕ → Batch → Type 0) (f : Batch → Batch) (xs : List Batch) → ((b : Batch) → (f b).bid ≡ b.bid) → ((k : ℕ) (b : Batch) → batch_of k xs ≡ Some b → P k b → P k (f b)) → EachBatch P xs → EachBatch P (map f xs)
unfolding EachBatch
each_map P f xs i k h j c e = let g = found_mapped f i j c xs e in subst (P j) g.2 (k j g.0 g.1 (h j g.0 g.1))

each_changed : (P : ℕ → Batch → Type 0) (k : ℕ) (f : Batch → Batch) (xs : List Batch) → ((b : Batch) → (f b).bid ≡ b.bid) → ((b : Batch) → batch_of k xs ≡ Some b → P k b → P k (f b)) → EachBatch P xs → EachBatch P (desk.changed_batch k f xs)
each_changed P k f xs i g h = each_map P (λ b. desk.change_if (b.bid == k) f b) xs (λ b. if_bid (b.bid == k) f b (i b)) (λ j b e p. by j b e p (b.bid == k) refl) h
  where
    by : (j : ℕ) (b : Batch) → batch_of j xs ≡ Some b → P j b → (v : Bool) → (b.bid == k) ≡ v → P j (desk.change_if v f b)
    by j b e p true m =
        let q : j ≡ k = sym (eqb-true b.bid j (found_bid j b xs e)) ∙ eqb-true b.bid k m in
        subst (λ z. P z (f b)) (sym q) (g b (subst (λ z. batch_of z xs ≡ Some b) q e) (subst (λ z. P z b) q p))
    by j b e p false m = p

-- ---- what each batch has

pub record Fit {C : Type 0} (w : Fixed C) (s : Machine C) (k : ℕ) (b : Batch) : Type 0 where
  pub info : IsIn (is_info k) (k % w.text.logs) s
  pub commit : is_committing b.stage ≡ true → IsIn (is_commit k) (k % w.text.logs) s
  pub trimmed : AllByRecursion (λ p. p.trimmed ≡ true → is_settled b.stage ≡ true) b.places
  pub distinct : (a : ℕ) → times a (map (λ p. p.actor) b.places) ≤ 1
  pub range : AllByRecursion (λ a. a < length w.text.opening.states) (map (λ p. p.actor) b.places)
  pub somewhere : is_empty b.places ≡ false
  pub noted : AllByRecursion (λ p. p.noted ≡ true → IsIn (is_complete k p.actor) (p.actor % w.text.logs) s) b.places
  pub all_noted : is_formed b.stage ≡ false → list_all (λ p. p.noted) b.places ≡ true

grows : {C : Type 0} (w : Fixed C) (e : Event) (s : Machine C) (k : ℕ) (b : Batch) → Fit w s k b → Fit w (after w e s) k b
grows w e s k b h = record {
  info = stays w e s (is_info k) (k % w.text.logs) h.info;
  commit = λ d. stays w e s (is_commit k) (k % w.text.logs) (h.commit d);
  trimmed = h.trimmed;
  distinct = h.distinct;
  range = h.range;
  somewhere = h.somewhere;
  noted = weaker _ _ b.places (λ p q d. stays w e s (is_complete k p.actor) (p.actor % w.text.logs) (q d)) h.noted;
  all_noted = h.all_noted;
}

map_empty : (f : Declared → Declared) (ps : List Declared) → is_empty ps ≡ false → is_empty (map f ps) ≡ false
map_empty f [] h = h
map_empty f (p ∷ ps) h = refl

marked_fit : {C : Type 0} (w : Fixed C) (s : Machine C) (k a : ℕ) (f : Declared → Declared) (b : Batch) → ((p : Declared) → (f p).actor ≡ p.actor) → ((p : Declared) → (p.trimmed ≡ true → is_settled b.stage ≡ true) → (f p).trimmed ≡ true → is_settled b.stage ≡ true)
    → ((p : Declared) → p.actor ≡ a → (p.noted ≡ true → IsIn (is_complete k p.actor) (p.actor % w.text.logs) s) → (f p).noted ≡ true → IsIn (is_complete k p.actor) (p.actor % w.text.logs) s) → ((p : Declared) → p.noted ≡ true → (f p).noted ≡ true) → Fit w s k b → Fit w s k (desk.marked a f b)
marked_fit {C} w s k a f b i t n n' h = let e = batch_marked_kept (λ p. p.actor) a f b i in record {
  info = h.info;
  commit = h.commit;
  trimmed = all_map _ _ (λ p. desk.mark_if (p.actor == a) f p) b.places (λ p q. by p (p.actor == a) q) h.trimmed;
  distinct = λ c. subst (λ z. times c z ≤ 1) (sym e) (h.distinct c);
  range = subst (AllByRecursion (λ a. a < length w.text.opening.states)) (sym e) h.range;
  somewhere = map_empty (λ p. desk.mark_if (p.actor == a) f p) b.places h.somewhere;
  noted = all_map (λ p. p.noted ≡ true → IsIn (is_complete k p.actor) (p.actor % w.text.logs) s) (λ p. p.noted ≡ true → IsIn (is_complete k p.actor) (p.actor % w.text.logs) s) (λ p. desk.mark_if (p.actor == a) f p) b.places (λ p q. note p (p.actor == a) refl q) h.noted;
  all_noted = λ d. each b.places (h.all_noted d);
}
  where
    note : (p : Declared) (v : Bool) → (p.actor == a) ≡ v → (p.noted ≡ true → IsIn (is_complete k p.actor) (p.actor % w.text.logs) s) → (desk.mark_if v f p).noted ≡ true → IsIn (is_complete k (desk.mark_if v f p).actor) ((desk.mark_if v f p).actor % w.text.logs) s
    note p true j q g = subst (λ z. IsIn (is_complete k z) (z % w.text.logs) s) (sym (i p)) (n p (eqb-true p.actor a j) q g)
    note p false j q g = q g

    each : (ps : List Declared) → list_all (λ p. p.noted) ps ≡ true → list_all (λ p. p.noted) (map (λ p. desk.mark_if (p.actor == a) f p) ps) ≡ true
    each [] d = refl
    each (p ∷ ps) d = let q = and_parts p.noted (list_all (λ p. p.noted) ps) d in rw (one p (p.actor == a) q.0, each ps q.1) refl
      where
        one : (p : Declared) (v : Bool) → p.noted ≡ true → (desk.mark_if v f p).noted ≡ true
        one p true d = n' p d
        one p false d = d

    by : (p : Declared) (v : Bool) → (p.trimmed ≡ true → is_settled b.stage ≡ true) → (desk.mark_if v f p).trimmed ≡ true → is_settled b.stage ≡ true
    by p true q g = t p q g
    by p false q g = q g

with_results_fit : {C : Type 0} (w : Fixed C) (s : Machine C) (k t : ℕ) (r : TxResult) (b : Batch) → Fit w s k b → Fit w s k (desk.with_results t r b)
with_results_fit w s k t r b h = record { info = h.info; commit = h.commit; trimmed = h.trimmed; distinct = h.distinct; range = h.range; somewhere = h.somewhere; noted = h.noted; all_noted = h.all_noted }

noted : {C : Type 0} (w : Fixed C) (s : Machine C) (t : ℕ) (n : Next C) (xs : List Batch) → EachBatch (Fit w s) xs → EachBatch (Fit w s) (desk.noted_for t n xs)
noted w s t (Go b d) xs h = h
noted w s t (Ended r) xs h = each_map (Fit w s) (desk.with_results t r) xs (λ b. refl) (λ k b e p. with_results_fit w s k t r b p) h

ended_batches : {C : Type 0} (w : Fixed C) (s : Machine C) (v : Bool) (t : ℕ) (o : Option (Outcome C)) (xs : List Batch) → EachBatch (Fit w s) xs → EachBatch (Fit w s) (if v then xs else desk.noted_from t o xs)
ended_batches w s true t o xs h = h
ended_batches w s false t None xs h = h
ended_batches w s false t (Some x) xs h = noted w s t x.next xs h

-- ---- the ring: its actors, and that only PACTs wait as PACTs

pub record Waits {C : Type 0} (w : Fixed C) (s : Machine C) : Type 0 where
  pub lasts : length s.ring.lasts ≡ length w.text.opening.states
  pub pacts : (c : ℕ) → AllByRecursion (λ n. is_pact (tx_at w.text n) ≡ true) (queue s.ring.pacts c)

lasts_length : (k : ℕ) (xs lasts : List ℕ) → length (ring.with_lasts k xs lasts) ≡ length lasts
lasts_length k [] lasts = refl
lasts_length k (a ∷ xs) lasts = lasts_length k xs (slice_set lasts a k) ∙ Times.length_set lasts a k

pub waits_kept : {C : Type 0} (w : Fixed C) (e : Event) (s : Machine C) → Waits w s → Waits w (after w e s)
unfolding after
waits_kept w (Submit n) s h = record { lasts = h.lasts; pacts = by (is_pact (tx_at w.text n)) refl }
  where
    by : (v : Bool) → is_pact (tx_at w.text n) ≡ v → (c : ℕ) → AllByRecursion (λ n. is_pact (tx_at w.text n) ≡ true) (queue (if v then ring.joined_at (n % w.text.coordinators) n s.ring.pacts else s.ring.pacts) c)
    by true e c = one_of (λ i q. AllByRecursion (λ n. is_pact (tx_at w.text n) ≡ true) q) [] s.ring.pacts (n % w.text.coordinators) (queue s.ring.pacts (n % w.text.coordinators) ++ n ∷ []) (λ k. all_join _ (queue s.ring.pacts (n % w.text.coordinators)) (n ∷ []) k (e, tt)) h.pacts c
    by false e c = h.pacts c
waits_kept w (Form k) s h = record { lasts = lasts_length k (ring.next_actors w.text s.ring) s.ring.lasts ∙ h.lasts; pacts = λ c. one_of (λ i q. AllByRecursion (λ n. is_pact (tx_at w.text n) ≡ true) q) [] s.ring.pacts s.ring.holder (drop w.text.batch (queue s.ring.pacts s.ring.holder)) (λ g. all_drop _ w.text.batch (queue s.ring.pacts s.ring.holder) g) h.pacts c }
waits_kept w (Abort k) s h = record { lasts = length-replicate (length s.ring.lasts) 0 ∙ h.lasts; pacts = h.pacts }
waits_kept w e s h = record { lasts = h.lasts; pacts = h.pacts }

pub waits_opened : {C : Type 0} (w : Fixed C) → Waits w (opening w)
waits_opened w = record { lasts = length-replicate (length w.text.opening.states) 0; pacts = λ c. none w.text.coordinators c }
  where
    none : (n c : ℕ) → AllByRecursion (λ n. is_pact (tx_at w.text n) ≡ true) (queue (replicate n []) c)
    none zero c = tt
    none (suc n) zero = tt
    none (suc n) (suc c) = none n c

-- ---- a new batch

pub times_filter : (a : ℕ) (p : ℕ → Bool) (xs : List ℕ) → times a (filter p xs) ≤ times a xs
times_filter a p [] = omega arith
times_filter a p (x ∷ xs) = by (p x) (times_filter a p xs)
  where
    by : (v : Bool) → times a (filter p xs) ≤ times a xs → times a (if v then x ∷ filter p xs else filter p xs) ≤ times a (x ∷ xs)
    by true l = omega (arith, l, Times.times_cons a x xs, Times.times_cons a x (filter p xs))
    by false l = omega (arith, l, Times.times_cons a x xs)

none_there : (a : ℕ) (xs : List ℕ) → AllByRecursion (λ x. x < a) xs → times a xs ≡ 0
none_there a [] h = refl
none_there a (x ∷ xs) h = omega (arith, Times.times_cons a x xs, none_there a xs h.1, ap one_if (Rattle.std.proofs.lemmas.Bool.ne_eqb x a (λ q. omega (arith, q, h.0))))

pub one_below : (n a : ℕ) → times a (below n) ≤ 1
one_below zero a = omega arith
one_below (suc n) a = elim (cases_Bool (n == a)) [
  | inl e ↦ let q : n ≡ a = eqb-true n a e in omega (arith, Times.times_append a (below n) (n ∷ []), Times.times_cons a n [], ap one_if e, none_there a (below n) (subst (λ z. AllByRecursion (λ x. x < z) (below n)) q (below_all n)))
  | inr e ↦ omega (arith, Times.times_append a (below n) (n ∷ []), Times.times_cons a n [], ap one_if e, one_below n a)
]

pub actors_of : (xs : List ℕ) → map (λ p. p.actor) (map desk.new_declared xs) ≡ xs
actors_of [] = refl
actors_of (x ∷ xs) = ap (λ z. x ∷ z) (actors_of xs)

none_trimmed : (P : Declared → Type 0) (xs : List ℕ) → AllByRecursion (λ p. p.trimmed ≡ true → P p) (map desk.new_declared xs)
none_trimmed P [] = tt
none_trimmed P (x ∷ xs) = (λ e. absurd (true≢false (sym e)), none_trimmed P xs)

none_noted : (P : Declared → Type 0) (xs : List ℕ) → AllByRecursion (λ p. p.noted ≡ true → P p) (map desk.new_declared xs)
none_noted P [] = tt
none_noted P (x ∷ xs) = (λ e. absurd (true≢false (sym e)), none_noted P xs)

-- where one passes, some is left
some_left : (p : ℕ → Bool) (r : ℕ) (xs : List ℕ) → 1 ≤ times r xs → p r ≡ true → is_empty (map desk.new_declared (filter p xs)) ≡ false
some_left p r [] l e = absurd (omega (arith, l))
some_left p r (x ∷ xs) l e = by (x == r) refl (p x) refl (some_left p r xs)
  where
    by : (v : Bool) → (x == r) ≡ v → (u : Bool) → p x ≡ u → (1 ≤ times r xs → p r ≡ true → is_empty (map desk.new_declared (filter p xs)) ≡ false) → is_empty (map desk.new_declared (if u then x ∷ filter p xs else filter p xs)) ≡ false
    by v i true j k = refl
    by true i false j k = absurd (true≢false (sym (subst (λ z. p z ≡ true) (sym (eqb-true x r i)) e) ∙ j))
    by false i false j k = k (omega (arith, l, Times.times_cons r x xs, ap one_if i)) e

there_below : (r n : ℕ) → r < n → 1 ≤ times r (below n)
there_below r zero l = absurd (omega (arith, l))
there_below r (suc n) l = elim (cases_Bool (n == r)) [
  | inl e ↦ omega (arith, Times.times_append r (below n) (n ∷ []), Times.times_cons r n [], ap one_if e)
  | inr e ↦ omega (arith, Times.times_append r (below n) (n ∷ []), there_below r n (omega (arith, l, Rattle.std.proofs.lemmas.Bool.eqb-false n r e)))
]

pub somewhere_new : {C : Type 0} (w : Fixed C) (s : Machine C) → IsText w.text → 1 ≤ length w.text.opening.states → Waits w s → not (is_empty (queue s.ring.pacts s.ring.holder)) ≡ true → is_empty (map desk.new_declared (ring.next_actors w.text s.ring)) ≡ false
somewhere_new w s v l h e = by w.text.batch v.some_batch (queue s.ring.pacts s.ring.holder) refl e (h.pacts s.ring.holder)
  where
    by : (few : ℕ) → 1 ≤ few → (q : List ℕ) → queue s.ring.pacts s.ring.holder ≡ q → not (is_empty q) ≡ true → AllByRecursion (λ n. is_pact (tx_at w.text n) ≡ true) q → is_empty (map desk.new_declared (filter (λ a. list_any (ring.declares w.text a) (ring.numbered s.ring.next_tid (take w.text.batch (queue s.ring.pacts s.ring.holder)))) (below (length s.ring.lasts)))) ≡ false
    by few m [] i n g = absurd (true≢false (sym n))
    by few m (x ∷ q) i n g =
        let t = tx_is w v l x in
        some_left (λ a. list_any (ring.declares w.text a) (ring.numbered s.ring.next_tid (take w.text.batch (queue s.ring.pacts s.ring.holder)))) (root (tx_at w.text x)) (below (length s.ring.lasts)) (there_below (root (tx_at w.text x)) (length s.ring.lasts) (omega (arith, h.lasts, t.root_exists)))
        (subst (λ z. list_any (ring.declares w.text (root (tx_at w.text x))) (ring.numbered s.ring.next_tid (take w.text.batch z)) ≡ true) (sym i) (first w.text.batch v.some_batch (among (root (tx_at w.text x)) (declared (tx_at w.text x)) (t.declares_root g.0))))
      where
        among : (r : ℕ) (ds : List ℕ) → list_any (λ a. a == r) ds ≡ true → is_among r ds ≡ true
        among r ds z = z

        first : (few : ℕ) → 1 ≤ few → is_among (root (tx_at w.text x)) (declared (tx_at w.text x)) ≡ true → list_any (ring.declares w.text (root (tx_at w.text x))) (ring.numbered s.ring.next_tid (take few (x ∷ q))) ≡ true
        first zero u z = absurd (omega (arith, u))
        first (suc few) u z = rw z refl

-- ---- every event

pub AllFit : {C : Type 0} → Fixed C → Machine C → Type 0
AllFit w s = EachBatch (Fit w s) s.desk.batches

not_settled : (st : Stage) → is_formed st ≡ true → is_settled st ≡ true → ⊥
not_settled Formed f g = true≢false (sym g)
not_settled Committing f g = true≢false (sym g)
not_settled Settled f g = true≢false (sym f)

kept : {C : Type 0} (w : Fixed C) (e : Event) (s : Machine C) → IsText w.text → 1 ≤ length w.text.opening.states → length s.logs ≡ w.text.logs → Waits w s → IsAllowed w e s → EachBatch (Fit w (after w e s)) s.desk.batches → AllFit w (after w e s)
unfolding AllFit EachBatch conditions after
kept w (Form k) s v l g m ok h = λ j c e. elim (found_more j c (desk.new_batch k (ring.next_actors w.text s.ring) (ring.next_pacts w.text s.ring)) s.desk.batches e) [
  | inl q ↦ h j c q
  | inr q ↦ let i : k ≡ j = ap (λ z. z.bid) q.1 ∙ eqb-true c.bid j (found_bid j c _ e) in subst (λ z. Fit w (after w (Form k) s) z c) i (subst (Fit w (after w (Form k) s) k) q.1 new)
]
  where
    new : Fit w (after w (Form k) s) k (desk.new_batch k (ring.next_actors w.text s.ring) (ring.next_pacts w.text s.ring))
    new = record {
      info = there_now s (is_info k) (k % w.text.logs) _ (in_logs w s k v.some_logs g) (rw (eq-eqb k k refl) refl);
      commit = λ d. absurd (true≢false (sym d));
      trimmed = none_trimmed _ (ring.next_actors w.text s.ring);
      distinct = λ a. subst (λ z. times a z ≤ 1) (sym (actors_of (ring.next_actors w.text s.ring))) (omega (arith, times_filter a (λ a. list_any (ring.declares w.text a) (ring.next_pacts w.text s.ring)) (below (length s.ring.lasts)), one_below (length s.ring.lasts) a));
      range = subst (AllByRecursion (λ a. a < length w.text.opening.states)) (sym (actors_of (ring.next_actors w.text s.ring))) (all_filter (λ a. a < length w.text.opening.states) (λ a. list_any (ring.declares w.text a) (ring.next_pacts w.text s.ring)) (below (length s.ring.lasts)) (subst (λ z. AllByRecursion (λ a. a < z) (below (length s.ring.lasts))) m.lasts (below_all (length s.ring.lasts))));
      somewhere = somewhere_new w s v l m ok.1.0;
      noted = none_noted _ (ring.next_actors w.text s.ring);
      all_noted = λ d. absurd (true≢false d);
    }
kept w (End t a) s v l g m ok h = ended_batches w (after w (End t a) s) (has_act t (cell_at s a).entries) t (outcome_of t (cell_at s a).outbox) s.desk.batches h
kept w (Note k a) s v l g m ok h = each_changed (Fit w (after w (Note k a) s)) k (desk.marked a desk.is_noted) s.desk.batches (λ b. refl) (λ b e p. marked_fit w (after w (Note k a) s) k a desk.is_noted b (λ x. refl) (λ x q. q) (λ x j q d. subst (λ z. IsIn (is_complete k z) (z % w.text.logs) s) (sym j) (any_take (is_complete k a) (log_at s (a % w.text.logs)).synced (log_at s (a % w.text.logs)).records (held (is_durable (is_complete k a)) s.logs (a % w.text.logs) no_log ok.1.0))) (λ x d. refl) p) h
kept w (Commit k) s v l g m ok h = each_changed (Fit w (after w (Commit k) s)) k (desk.with_stage Committing) s.desk.batches (λ b. refl) (λ b e p.
    let q = subst (λ z. holds (λ b. is_open b && is_next_to_commit k s.desk.batches) z ≡ true) e ok.0 in
    let f = (and_parts (is_formed b.stage) (not b.aborted) (and_parts (is_open b) (is_next_to_commit k s.desk.batches) q).0).0 in
    record {
      info = p.info;
      commit = λ d. there_now s (is_commit k) (k % w.text.logs) (BatchDone k (values_of (batch_of k s.desk.batches)) ∷ []) (in_logs w s k v.some_logs g) (rw (eq-eqb k k refl) refl);
      trimmed = weaker _ _ b.places (λ x y d. absurd (not_settled b.stage f (y d))) p.trimmed;
      distinct = p.distinct;
      range = p.range;
      somewhere = p.somewhere;
      noted = p.noted;
      all_noted = λ d. subst (λ z. holds (λ b. list_all (λ p. p.noted) b.places) z ≡ true) e ok.1.1.0;
    }) h
kept w (Settle k) s v l g m ok h = each_changed (Fit w (after w (Settle k) s)) k (desk.with_stage Settled) s.desk.batches (λ b. refl) (λ b e p.
    let q = subst (λ z. holds (λ b. is_committing b.stage && not b.aborted) z ≡ true) e ok.0 in record {
      info = p.info;
      commit = λ d. absurd (true≢false (sym d));
      trimmed = weaker _ _ b.places (λ x y d. refl) p.trimmed;
      distinct = p.distinct;
      range = p.range;
      somewhere = p.somewhere;
      noted = p.noted;
      all_noted = λ d. p.all_noted (committing_not_formed b.stage (and_parts (is_committing b.stage) (not b.aborted) q).0);
    }) h
kept w (Abort k) s v l g m ok h = each_map (Fit w (after w (Abort k) s)) (desk.taken k) s.desk.batches (λ b. refl) (λ j b e p. record { info = p.info; commit = p.commit; trimmed = p.trimmed; distinct = p.distinct; range = p.range; somewhere = p.somewhere; noted = p.noted; all_noted = p.all_noted }) h
kept w (Trim k a) s v l g m ok h = each_changed (Fit w (after w (Trim k a) s)) k (desk.marked a desk.is_trimmed) s.desk.batches (λ b. refl) (λ b e p.
    let q = subst (λ z. holds (λ b. is_settled b.stage && (not b.aborted && holds (λ p. not p.trimmed) (declared_of a b))) z ≡ true) e ok.0 in
    marked_fit w (after w (Trim k a) s) k a desk.is_trimmed b (λ x. refl) (λ x y d. (and_parts (is_settled b.stage) (not b.aborted && holds (λ p. not p.trimmed) (declared_of a b)) q).0) (λ x j q d. q d) (λ x d. d) p) h
kept w e s v l g m ok h = h

pub fit_kept : {C : Type 0} (w : Fixed C) (e : Event) (s : Machine C) → IsText w.text → 1 ≤ length w.text.opening.states → length s.logs ≡ w.text.logs → Waits w s → IsAllowed w e s → AllFit w s → AllFit w (after w e s)
unfolding AllFit EachBatch
fit_kept w e s v l g m ok h = kept w e s v l g m ok (λ k b i. grows w e s k b (h k b i))

pub fit_opened : {C : Type 0} (w : Fixed C) → AllFit w (opening w)
unfolding AllFit EachBatch
fit_opened w = λ k b e. absurd (cc e)

pub fit_is : {C : Type 0} (w : Fixed C) (s : Machine C) → AllFit w s → (k : ℕ) (b : Batch) → batch_of k s.desk.batches ≡ Some b → Fit w s k b
unfolding AllFit EachBatch
fit_is w s h = h

-- ---- complete marks have their records

abbrev pub Written : {C : Type 0} → Fixed C → Machine C → ℕ → Entry → Type 0
Written w s a (BatchEntry b) = b.complete ≡ true → IsIn (is_complete b.bid a) (a % w.text.logs) s
Written w s a (ActEntry x) = Unit {0}

pub AllWritten : {C : Type 0} → Fixed C → Machine C → Type 0
AllWritten w s = (a : ℕ) → AllByRecursion (Written w s a) (cell_at s a).entries

written_grows : {C : Type 0} (w : Fixed C) (e : Event) (s : Machine C) (a : ℕ) (x : Entry) → Written w s a x → Written w (after w e s) a x
written_grows w e s a (BatchEntry b) h = λ d. stays w e s (is_complete b.bid a) (a % w.text.logs) (h d)
written_grows w e s a (ActEntry x) h = tt

done_written : {C : Type 0} (w : Fixed C) (s : Machine C) (a t : ℕ) (x : Entry) → Written w s a x → Written w s a (cell.done_in t x)
done_written w s a t (BatchEntry b) h = h
done_written w s a t (ActEntry x) h = h

new_written : {C : Type 0} (w : Fixed C) (s : Machine C) (a k : ℕ) (o : Option SubBatch) → AllByRecursion (Written w s a) (cell.batch_entries k o)
new_written w s a k None = tt
new_written w s a k (Some m) = (λ d. absurd (true≢false (sym d)), tt)

act_written : {C : Type 0} (w : Fixed C) (s : Machine C) (a : ℕ) (t : Lock) (o : Option ℕ) → AllByRecursion (Written w s a) (cell.act_entries t o)
act_written w s a t None = (tt, tt)
act_written w s a t (Some x) = tt

staying_written : {C : Type 0} (w : Fixed C) (s : Machine C) (a : ℕ) (cs : List Cascade) (es : List Entry) → AllByRecursion (Written w s a) es → AllByRecursion (Written w s a) (cell.staying cs es)
staying_written w s a cs [] h = tt
staying_written w s a cs (x ∷ es) h = by (cell.is_cut cs (who_of x)) (staying_written w s a cs es h.1)
  where
    by : (v : Bool) → AllByRecursion (Written w s a) (cell.staying cs es) → AllByRecursion (Written w s a) (if v then [] else x ∷ cell.staying cs es)
    by true k = tt
    by false k = (h.0, k)

complete_written : {C : Type 0} (w : Fixed C) (s : Machine C) (a k : ℕ) (x : Entry) → IsIn (is_complete k a) (a % w.text.logs) s → Written w s a x → Written w s a (cell.complete_in k x)
complete_written w s a k (ActEntry x) i h = tt
complete_written w s a k (BatchEntry b) i h = λ d. elim (or_cases b.complete (b.bid == k) d) [ inl c ↦ h c | inr c ↦ subst (λ z. IsIn (is_complete z a) (a % w.text.logs) s) (sym (eqb-true b.bid k c)) i ]

ran_written : {C : Type 0} (w : Fixed C) (s : Machine C) (a t : ℕ) (v : Bool) (es : List Entry) → AllByRecursion (Written w s a) es → AllByRecursion (Written w s a) (if v then map (cell.done_in t) es else es)
ran_written w s a t true es h = all_map _ _ (cell.done_in t) es (done_written w s a t) h
ran_written w s a t false es h = h

cells_written : {C : Type 0} (w : Fixed C) (e : Event) (s : Machine C) → 1 ≤ w.text.logs → length s.logs ≡ w.text.logs → ((a : ℕ) → AllByRecursion (Written w (after w e s) a) (cell_at s a).entries) → AllWritten w (after w e s)
unfolding AllWritten after
cells_written w (Arrive k a) s l g h = one_of (λ b c. AllByRecursion (Written w (after w (Arrive k a) s) b) c.entries) no_cell s.cells a (cell.batch_placed k (sub_of k a s.post.subs) (cell_at s a)) (λ q. all_join _ (cell_at s a).entries _ q (new_written w (after w (Arrive k a) s) a k (sub_of k a s.post.subs))) h
cells_written w (Ask t a) s l g h = one_of (λ b c. AllByRecursion (Written w (after w (Ask t a) s) b) c.entries) no_cell s.cells a _ (λ q. all_join _ (cell_at s a).entries _ q (act_written w (after w (Ask t a) s) a (lock_of t s.book.acts) (book.in_the_way (lock_of t s.book.acts) (cell_at s a).entries))) h
cells_written w (Take t a) s l g h = one_of (λ b c. AllByRecursion (Written w (after w (Take t a) s) b) c.entries) no_cell s.cells a _ (λ q. q) h
cells_written w (Run t a) s l g h = one_of (λ b c. AllByRecursion (Written w (after w (Run t a) s) b) c.entries) no_cell s.cells a (cell.slice_run w.code t a (cell_at s a)) (λ q. ran_written w (after w (Run t a) s) a t (cell.is_done_after w.code a (cell.slice_of w.code t (cell_at s a))) (cell_at s a).entries q) h
cells_written w (Send t a) s l g h = one_of (λ b c. AllByRecursion (Written w (after w (Send t a) s) b) c.entries) no_cell s.cells a _ (λ q. q) h
cells_written w (End t a) s l g h = one_of (λ b c. AllByRecursion (Written w (after w (End t a) s) b) c.entries) no_cell s.cells a _ (λ q. q) h
cells_written w (Close t a) s l g h = one_of (λ b c. AllByRecursion (Written w (after w (Close t a) s) b) c.entries) no_cell s.cells a _ (λ q. all_map _ _ (cell.done_in t) (cell_at s a).entries (done_written w (after w (Close t a) s) a t) q) h
cells_written w (Complete k a) s l g h = one_of (λ b c. AllByRecursion (Written w (after w (Complete k a) s) b) c.entries) no_cell s.cells a _ (λ q. all_map _ _ (cell.complete_in k) (cell_at s a).entries (λ x i. complete_written w (after w (Complete k a) s) a k x (there_now s (is_complete k a) (a % w.text.logs) (BatchComplete k a (cell_at s a).state ∷ []) (in_logs w s a l g) (rw (eq-eqb k k refl, eq-eqb a a refl) refl)) i) q) h
cells_written w (Rollback a) s l g h = one_of (λ b c. AllByRecursion (Written w (after w (Rollback a) s) b) c.entries) no_cell s.cells a _ (λ q. staying_written w (after w (Rollback a) s) a s.book.cascades (cell_at s a).entries q) h
cells_written w (Finish t a) s l g h = one_of (λ b c. AllByRecursion (Written w (after w (Finish t a) s) b) c.entries) no_cell s.cells a _ (λ q. all_filter _ (λ e. not (is_act_entry t e)) (cell_at s a).entries q) h
cells_written w (Trim k a) s l g h = one_of (λ b c. AllByRecursion (Written w (after w (Trim k a) s) b) c.entries) no_cell s.cells a _ (λ q. all_filter _ (λ e. not (is_batch_entry k e)) (cell_at s a).entries q) h
cells_written w e s l g h = h

pub written_kept : {C : Type 0} (w : Fixed C) (e : Event) (s : Machine C) → 1 ≤ w.text.logs → length s.logs ≡ w.text.logs → AllWritten w s → AllWritten w (after w e s)
unfolding AllWritten
written_kept w e s l g h = cells_written w e s l g (λ a. weaker (Written w s a) (Written w (after w e s) a) (cell_at s a).entries (written_grows w e s a) (h a))

pub written_opened : {C : Type 0} (w : Fixed C) → AllWritten w (opening w)
unfolding AllWritten
written_opened {C} w a = by w.text.opening.states a
  where
    by : (ss : List Rattle.snap_base.specs.declared.transactions.State.State) (a : ℕ) → AllByRecursion (Written w (opening w) a) (slice_index_or (map (Rattle.protocol.specs.Runs.new_cell {C = C} (Rattle.protocol.specs.Fixed.base w.text)) ss) a no_cell).entries
    by ss a = subst (AllByRecursion (Written w (opening w) a)) (sym (none ss a)) tt
      where
        none : (ss : List Rattle.snap_base.specs.declared.transactions.State.State) (a : ℕ) → (slice_index_or (map (Rattle.protocol.specs.Runs.new_cell {C = C} (Rattle.protocol.specs.Fixed.base w.text)) ss) a no_cell).entries ≡ []
        none [] a = refl
        none (x ∷ xs) zero = refl
        none (x ∷ xs) (suc a) = none xs a

pub written_is : {C : Type 0} (w : Fixed C) (s : Machine C) → AllWritten w s → (a : ℕ) (b : PlacedBatch) (es : List Entry) → (cell_at s a).entries ≡ BatchEntry b ∷ es → b.complete ≡ true → IsIn (is_complete b.bid a) (a % w.text.logs) s
unfolding AllWritten
written_is w s h a b es e = (subst (AllByRecursion (Written w s a)) e (h a)).0
