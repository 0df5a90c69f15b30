-- Records of states are added once, over every run; so none of a member lies behind a cut.
use Rattle.std.specs.Prelude.{◌≡◌, refl, ℕ, ℤ, ◌%◌, ◌==◌, not, Bool, true, false, ◌⊎◌, if◌then◌else◌, Option, Some, None, is_some, List, [], ◌∷◌, ◌++◌, map, find, slice_index_or}
use Rattle.std.specs.List.{AllByRecursion, list_any}
use Rattle.std.proofs.Common.{sym, ap, subst, inl, inr, ◌∙◌}
use Rattle.std.proofs.lemmas.List.{append-nil}
use Rattle.std.proofs.lemmas.Bool.{true≢false, or_cases, or_left, or_right, and_parts, eqb-true, false_from_ne_true, not-true}
use Rattle.snap_base.specs.declared.transactions.Tx.{Tx}
use Rattle.snap_base.specs.declared.transactions.State.{State}
use Rattle.protocol.specs.Facts.{Alone}
use Rattle.protocol.specs.Fixed.{Fixed, no_state}
use Rattle.protocol.specs.Records.{LogRecord, BatchComplete, ActPrepare, is_complete, is_prepare}
use Rattle.protocol.specs.Parts.{Act, Joined, Who, OfBatch, OfAct, Machine}
use Rattle.protocol.specs.Events.{Event, Form, Admit, Ask, End, Complete, Sync, Commit, Prepare, Vouch, Decide, Seal, Finish}
use Rattle.protocol.specs.Words.{holds, is_among, is_complete_batch, is_batch_entry, joined_of, act_of, batch_of, value_of}
use Rattle.protocol.specs.Conditions.{IsAllowed, conditions}
use Rattle.protocol.specs.Effects.{after, cell_at, no_cell, log_at, act_commit}
use Rattle.protocol.specs.OnBook as book
use Rattle.protocol.specs.History.{History}
use Rattle.protocol_records.specs.Logged.{logged_at, actors_of_batch, ActsSure}
use Rattle.protocol_records.specs.Telling.{One, told_states, names, Telling}
use Rattle.protocol_laws.proofs.machine.ActsFound as acts
use Rattle.protocol_laws.proofs.machine.ActsFound.{HoldsAnyway}
use Rattle.protocol_laws.proofs.machine.TracksKept.{held, Tracked}
use Rattle.protocol_laws.proofs.machine.TurnsKept.{one_is}
use Rattle.protocol_laws.proofs.machine.CommitsKept.{Committed}
use Rattle.protocol_records.proofs.crash.ActPlaces.{fact_stays}
use Rattle.protocol_laws.proofs.machine.AllGood.{AllGood}
use Rattle.protocol_records.proofs.crash.Durable.{logged_added}
use Rattle.protocol_records.proofs.crash.TellsKept.{told_same, told_added, told_commit, told_all, completes_fresh, batch_unmarked, keys_at, differ_at}
use Rattle.protocol_records.proofs.crash.ToldOnce.{OnceTold, once_more, told_marked}
use Rattle.protocol_laws.proofs.first.Lists.{some_held}
use Rattle.protocol_laws.proofs.machine.MarksKept.{log_synced}

-- the ACT is prepared at the place that is found
abbrev pub is_prepared_at : ℕ → Act → Bool
is_prepared_at a x = holds (λ p. p.prepared) (joined_of a x)

unfoldable pub MarkedPrepared : {C : Type 0} → Fixed C → Machine C → Type 0
MarkedPrepared w s = (t a : ℕ) → logged_at (is_prepare t a) s.logs (a % w.text.logs) ≡ true → holds (is_prepared_at a) (act_of t s.book.acts) ≡ true

holds_marked : (t a : ℕ) → HoldsAnyway (λ u x. u ≡ t → is_prepared_at a x ≡ true)
holds_marked t a = record { numbered = λ u x n p. p; doomed = λ u x v l p. p; rises = λ u k x l p. p }

mark_found : (a b : ℕ) (f : Joined → Joined) (ps : List Joined) → ((p : Joined) → (f p).actor ≡ p.actor) → ((p : Joined) → p.prepared ≡ true → (f p).prepared ≡ true) → holds (λ p. p.prepared) (find (λ p. p.actor == a) ps) ≡ true → holds (λ p. p.prepared) (find (λ p. p.actor == a) (map (λ p. book.mark_if (p.actor == b) f p) ps)) ≡ true
mark_found a b f [] i k h = h
mark_found a b f (p ∷ ps) i k h = subst (λ z. holds (λ p. p.prepared) (if z == a then Some (book.mark_if (p.actor == b) f p) else find (λ p. p.actor == a) (map (λ p. book.mark_if (p.actor == b) f p) ps)) ≡ true) (sym (same (p.actor == b))) (by (p.actor == a) h (mark_found a b f ps i k))
  where
    same : (v : Bool) → (book.mark_if v f p).actor ≡ p.actor
    same true = i p
    same false = refl

    still : (v : Bool) → p.prepared ≡ true → (book.mark_if v f p).prepared ≡ true
    still true e = k p e
    still false e = e

    by : (v : Bool) → holds (λ p. p.prepared) (if v then Some p else find (λ p. p.actor == a) ps) ≡ true → (holds (λ p. p.prepared) (find (λ p. p.actor == a) ps) ≡ true → holds (λ p. p.prepared) (find (λ p. p.actor == a) (map (λ p. book.mark_if (p.actor == b) f p) ps)) ≡ true) → holds (λ p. p.prepared) (if v then Some (book.mark_if (p.actor == b) f p) else find (λ p. p.actor == a) (map (λ p. book.mark_if (p.actor == b) f p) ps)) ≡ true
    by true h r = still (p.actor == b) h
    by false h r = r h

more_found : (a : ℕ) (n : Joined) (ps : List Joined) → holds (λ p. p.prepared) (find (λ p. p.actor == a) ps) ≡ true → holds (λ p. p.prepared) (find (λ p. p.actor == a) (ps ++ n ∷ [])) ≡ true
more_found a n [] h = absurd (true≢false (sym h))
more_found a n (p ∷ ps) h = by (p.actor == a) h (more_found a n ps)
  where
    by : (v : Bool) → holds (λ p. p.prepared) (if v then Some p else find (λ p. p.actor == a) ps) ≡ true → (holds (λ p. p.prepared) (find (λ p. p.actor == a) ps) ≡ true → holds (λ p. p.prepared) (find (λ p. p.actor == a) (ps ++ n ∷ [])) ≡ true) → holds (λ p. p.prepared) (if v then Some p else find (λ p. p.actor == a) (ps ++ n ∷ [])) ≡ true
    by true h r = h
    by false h r = r h

ready_marked : {C : Type 0} (w : Fixed C) (e : Event) (s : Machine C) (t a : ℕ) → holds (is_prepared_at a) (act_of t s.book.acts) ≡ true → acts.ReadyAll w e s (λ u x. u ≡ t → is_prepared_at a x ≡ true)
unfolding acts.ReadyAll
ready_marked w (Admit u) s t a q = λ e f. absurd (true≢false (sym (some_held (is_prepared_at a) (act_of t s.book.acts) q) ∙ ap is_some (ap (λ z. act_of z s.book.acts) (sym f) ∙ e)))
ready_marked w (Ask u b) s t a q = λ o x e p f. more_found a (record { actor = b; prepared = false; vouched = false; finished = false }) x.places (p f)
ready_marked w (End u b) s t a q = λ x r e p f. p f
ready_marked w (Decide u) s t a q = λ x e p f. p f
ready_marked w (Prepare u b) s t a q = λ x e p f. mark_found a b book.is_prepared x.places (λ p. refl) (λ p i. refl) (p f)
ready_marked w (Vouch u b) s t a q = λ x e p f. mark_found a b book.is_vouched x.places (λ p. refl) (λ p i. i) (p f)
ready_marked w (Seal u) s t a q = λ x e p f. p f
ready_marked w (Finish u b) s t a q = λ x e p f. mark_found a b book.has_left x.places (λ p. refl) (λ p i. i) (p f)
ready_marked w e s t a q = tt

marked_stays : {C : Type 0} (w : Fixed C) (e : Event) (s : Machine C) (t a : ℕ) → holds (is_prepared_at a) (act_of t s.book.acts) ≡ true → holds (is_prepared_at a) (act_of t (after w e s).book.acts) ≡ true
marked_stays w e s t a h = fact_stays w e s t (is_prepared_at a) (holds_marked t a) (ready_marked w e s t a h) h

-- nobody is told twice
unfoldable pub AllOnce : {C : Type 0} → Fixed C → Machine C → Type 0
AllOnce w s = (a : ℕ) → OnceTold (told_states a (log_at s (a % w.text.logs)).records)

-- a batch that becomes complete was not told there
pub batch_new : {C : Type 0} (w : Fixed C) (Of : Tx → C → Type 0) (finish : C → List State → Alone) (k a : ℕ) (s : Machine C) (h : History) → IsAllowed w (Complete k a) s → AllGood w Of finish s h → Telling w s h → names (OfBatch k) (told_states a (log_at s (a % w.text.logs)).records) ≡ false
unfolding conditions Telling Tracked Committed
batch_new w Of finish k a s h ok g te =
    let u = batch_unmarked k (cell_at s a).entries (held (λ c. holds (λ e. not (is_complete_batch e)) (find (is_batch_entry k) c.entries)) s.cells a no_cell ok.0) (differ_at w s h a g.good.tracked) in
    told_marked (Rattle.protocol_laws.specs.Commits.reads_who s.book.acts) (slice_index_or w.text.opening.states a no_state) (OfBatch k) (told_states a (log_at s (a % w.text.logs)).records) h.kept (h.long a) refl refl (keys_at w s h a (OfBatch k) g.good.tracked u.0) (completes_fresh w Of finish k a s h ok g) (g.good.committed a).front
    (key_on (OfBatch k) (h.long a) (subst (λ z. Rattle.protocol_laws.specs.Tracks.is_key_among (OfBatch k) z ≡ true) (g.good.tracked a).stands u.1)) (te a)
  where
    key_on : (y : Who) (rs : List Rattle.protocol.specs.History.Ran) → Rattle.protocol_laws.specs.Tracks.is_key_among y (Rattle.protocol_laws.specs.Tracks.keys_in rs) ≡ true → Rattle.protocol_records.specs.Logged.is_on y rs ≡ true
    key_on y [] e = e
    key_on y (Rattle.protocol.specs.History.Stands z c ss ∷ rs) e = elim (or_cases (Rattle.protocol.specs.Words.is_who z y) _ e) [ inl q ↦ or_left (Rattle.protocol.specs.Words.is_who z y) _ q | inr q ↦ or_right (Rattle.protocol.specs.Words.is_who z y) _ (key_on y rs q) ]
    key_on y (Rattle.protocol.specs.History.Gone z ss ∷ rs) e = or_right (Rattle.protocol.specs.Words.is_who z y) _ (key_on y rs e)

-- nor an ACT whose record is added
pub act_new : {C : Type 0} (w : Fixed C) (t a : ℕ) (s : Machine C) → IsAllowed w (Prepare t a) s → MarkedPrepared w s → names (OfAct t) (told_states a (log_at s (a % w.text.logs)).records) ≡ false
unfolding conditions MarkedPrepared
act_new w t a s ok m = all (told_states a (log_at s (a % w.text.logs)).records) (told_all (λ y. Rattle.protocol.specs.Words.is_who (OfAct t) y ≡ false) a (log_at s (a % w.text.logs)).records (λ k q. refl) (λ u q. false_from_ne_true (t == u) (λ i. none (subst (λ z. holds (is_prepared_at a) (act_of z s.book.acts) ≡ true) (sym (eqb-true t u i)) (m u a q)))))
  where
    all : (os : List One) → AllByRecursion (λ o. Rattle.protocol.specs.Words.is_who (OfAct t) o.who ≡ false) os → names (OfAct t) os ≡ false
    all [] h = refl
    all (o ∷ os) h = rw (h.0, all os h.1) refl

    none : holds (is_prepared_at a) (act_of t s.book.acts) ≡ true → ⊥
    none q =
        let x = one_is (λ x. holds (λ p. not p.prepared) (joined_of a x)) (act_of t s.book.acts) ok.1.0 in
        let p = one_is (λ p. not p.prepared) (joined_of a x.0) x.2 in
        true≢false (sym (subst (λ o. holds (λ p. p.prepared) o ≡ true) p.1 (subst (λ o. holds (is_prepared_at a) o ≡ true) x.1 q)) ∙ not-true p.0.prepared p.2)

-- ---- all events

-- a record of a batch is of one of its actors
unfoldable pub Declares : {C : Type 0} → Fixed C → Machine C → Type 0
Declares w s = (k a : ℕ) → logged_at (is_complete k a) s.logs (a % w.text.logs) ≡ true → (xs : List ℕ) × (actors_of_batch (batch_of k s.desk.batches) ≡ Some xs) × (is_among a xs ≡ true)

pub record Once {C : Type 0} (w : Fixed C) (s : Machine C) : Type 0 where
  pub once : AllOnce w s
  pub marked : MarkedPrepared w s
  pub declares : Declares w s

-- which records of states an event adds
pub new_record : {C : Type 0} (w : Fixed C) (e : Event) (s : Machine C) (p : LogRecord → Bool) (l : ℕ) → ((k : ℕ) (xs ts : List ℕ) → p (Rattle.protocol.specs.Records.BatchInfo k xs ts) ≡ false) → ((k : ℕ) (vs : List ℤ) → p (Rattle.protocol.specs.Records.BatchDone k vs) ≡ false) → ((t m c : ℕ) (v : ℤ) (xs : List ℕ) → p (Rattle.protocol.specs.Records.ActDone t m c v xs) ≡ false) → logged_at p (after w e s).logs l ≡ true
    → (logged_at p s.logs l ≡ true) ⊎ ((k a : ℕ) × (e ≡ Complete k a) × (p (BatchComplete k a (cell_at s a).state) ≡ true)) ⊎ ((t a : ℕ) × (e ≡ Prepare t a) × (p (ActPrepare t a (cell_at s a).state) ≡ true))
unfolding after
new_record w (Form k) s p l f g h q = elim (logged_added p _ s.logs (k % w.text.logs) l q) [ inl v ↦ inl v | inr v ↦ absurd (elim (or_cases (p _) false v) [ inl u ↦ true≢false (sym u ∙ f _ _ _) | inr u ↦ true≢false (sym u) ]) ]
new_record w (Commit k) s p l f g h q = elim (logged_added p _ s.logs (k % w.text.logs) l q) [ inl v ↦ inl v | inr v ↦ absurd (elim (or_cases (p _) false v) [ inl u ↦ true≢false (sym u ∙ g _ _) | inr u ↦ true≢false (sym u) ]) ]
new_record w (Complete k a) s p l f g h q = elim (logged_added p _ s.logs (a % w.text.logs) l q) [ inl v ↦ inl v | inr v ↦ elim (or_cases (p _) false v) [ inl u ↦ inr (inl (k, a, refl, u)) | inr u ↦ absurd (true≢false (sym u)) ] ]
new_record w (Prepare t a) s p l f g h q = elim (logged_added p _ s.logs (a % w.text.logs) l q) [ inl v ↦ inl v | inr v ↦ elim (or_cases (p _) false v) [ inl u ↦ inr (inr (t, a, refl, u)) | inr u ↦ absurd (true≢false (sym u)) ] ]
new_record w (Sync i) s p l f g h q = inl (sym (ap (list_any p) (log_synced s.logs i l)) ∙ q)
new_record w (Decide t) s p l f g h q = elim (logged_added p _ s.logs (t % w.text.logs) l q) [ inl v ↦ inl v | inr v ↦ absurd (none (act_of t s.book.acts) v) ]
  where
    none : (o : Option Act) → list_any p (act_commit s.book.next_c o) ≡ true → ⊥
    none None v = true≢false (sym v)
    none (Some x) v = by (Rattle.protocol.specs.Words.is_value x.result) v
      where
        by : (b : Bool) → list_any p (if b then Rattle.protocol.specs.Records.ActDone x.tid x.m s.book.next_c (value_of x.result) (Rattle.protocol.specs.Effects.ascending (map (λ p. p.actor) x.places)) ∷ [] else []) ≡ true → ⊥
        by true v = elim (or_cases (p (Rattle.protocol.specs.Records.ActDone x.tid x.m s.book.next_c (value_of x.result) (Rattle.protocol.specs.Effects.ascending (map (λ p. p.actor) x.places)))) false v) [ inl u ↦ true≢false (sym u ∙ h x.tid x.m s.book.next_c (value_of x.result) (Rattle.protocol.specs.Effects.ascending (map (λ p. p.actor) x.places))) | inr u ↦ true≢false (sym u) ]
        by false v = true≢false (sym v)
new_record w e s p l f g h q = inl q

pub once_step : {C : Type 0} (w : Fixed C) (Of : Tx → C → Type 0) (finish : C → List State → Alone) (e : Event) (s : Machine C) (h : History) → IsAllowed w e s → AllGood w Of finish s h → Telling w s h → MarkedPrepared w s → AllOnce w s → AllOnce w (after w e s)
unfolding AllOnce after
once_step w Of finish (Form k) s h ok g te m q = λ c. subst OnceTold (sym (told_same c _ s.logs (k % w.text.logs) (c % w.text.logs) refl)) (q c)
once_step w Of finish (Commit k) s h ok g te m q = λ c. subst OnceTold (sym (told_same c _ s.logs (k % w.text.logs) (c % w.text.logs) refl)) (q c)
once_step w Of finish (Decide t) s h ok g te m q = λ c. subst OnceTold (sym (told_same c _ s.logs (t % w.text.logs) (c % w.text.logs) (told_commit c s.book.next_c (act_of t s.book.acts)))) (q c)
once_step w Of finish (Sync l) s h ok g te m q = λ c. subst (λ rs. OnceTold (told_states c rs)) (sym (log_synced s.logs l (c % w.text.logs))) (q c)
once_step w Of finish (Complete k a) s h ok g te m q = λ c. elim (told_added c (BatchComplete k a (cell_at s a).state ∷ []) s.logs (a % w.text.logs) (c % w.text.logs)) [ inl e ↦ subst OnceTold (sym e) (q c) | inr e ↦ subst OnceTold (sym e) (by c (a == c) refl) ]
  where
    by : (c : ℕ) (v : Bool) → (a == c) ≡ v → OnceTold (told_states c (log_at s (c % w.text.logs)).records ++ (if v then record { who = OfBatch k; state = (cell_at s a).state } ∷ [] else []))
    by c true f = once_more (told_states c (log_at s (c % w.text.logs)).records) (record { who = OfBatch k; state = (cell_at s a).state }) (subst (λ z. names (OfBatch k) (told_states z (log_at s (z % w.text.logs)).records) ≡ false) (eqb-true a c f) (batch_new w Of finish k a s h ok g te)) (q c)
    by c false f = subst OnceTold (sym (append-nil (told_states c (log_at s (c % w.text.logs)).records))) (q c)
once_step w Of finish (Prepare t a) s h ok g te m q = λ c. elim (told_added c (ActPrepare t a (cell_at s a).state ∷ []) s.logs (a % w.text.logs) (c % w.text.logs)) [ inl e ↦ subst OnceTold (sym e) (q c) | inr e ↦ subst OnceTold (sym e) (by c (a == c) refl) ]
  where
    by : (c : ℕ) (v : Bool) → (a == c) ≡ v → OnceTold (told_states c (log_at s (c % w.text.logs)).records ++ (if v then record { who = OfAct t; state = (cell_at s a).state } ∷ [] else []))
    by c true f = once_more (told_states c (log_at s (c % w.text.logs)).records) (record { who = OfAct t; state = (cell_at s a).state }) (subst (λ z. names (OfAct t) (told_states z (log_at s (z % w.text.logs)).records) ≡ false) (eqb-true a c f) (act_new w t a s ok m)) (q c)
    by c false f = subst OnceTold (sym (append-nil (told_states c (log_at s (c % w.text.logs)).records))) (q c)
once_step w Of finish e s h ok g te m q = q

marked_prepared : {C : Type 0} (w : Fixed C) (t a : ℕ) (s : Machine C) → IsAllowed w (Prepare t a) s → holds (is_prepared_at a) (act_of t (after w (Prepare t a) s).book.acts) ≡ true
unfolding conditions after
marked_prepared w t a s ok =
    let x = one_is (λ x. holds (λ p. not p.prepared) (joined_of a x)) (act_of t s.book.acts) ok.1.0 in
    subst (λ o. holds (is_prepared_at a) o ≡ true) (sym (Rattle.protocol_records.proofs.crash.ActsSure.found_changed t (book.marked a book.is_prepared) x.0 s.book.acts (λ x. refl) x.1)) (at x.0.places (some_held (λ p. not p.prepared) (joined_of a x.0) x.2))
  where
    at : (ps : List Joined) → is_some (find (λ p. p.actor == a) ps) ≡ true → holds (λ p. p.prepared) (find (λ p. p.actor == a) (map (λ p. book.mark_if (p.actor == a) book.is_prepared p) ps)) ≡ true
    at [] h = absurd (true≢false (sym h))
    at (p ∷ ps) h = by (p.actor == a) refl h (at ps)
      where
        by : (v : Bool) → (p.actor == a) ≡ v → is_some (if v then Some p else find (λ p. p.actor == a) ps) ≡ true → (is_some (find (λ p. p.actor == a) ps) ≡ true → holds (λ p. p.prepared) (find (λ p. p.actor == a) (map (λ p. book.mark_if (p.actor == a) book.is_prepared p) ps)) ≡ true)
            → holds (λ p. p.prepared) (if (book.mark_if v book.is_prepared p).actor == a then Some (book.mark_if v book.is_prepared p) else find (λ p. p.actor == a) (map (λ p. book.mark_if (p.actor == a) book.is_prepared p) ps)) ≡ true
        by true e h r = rw e refl
        by false e h r = rw e (r h)

pub marked_step : {C : Type 0} (w : Fixed C) (e : Event) (s : Machine C) → IsAllowed w e s → MarkedPrepared w s → MarkedPrepared w (after w e s)
unfolding MarkedPrepared
marked_step w e s ok m = λ t a q. elim (new_record w e s (is_prepare t a) (a % w.text.logs) (λ k xs ts. refl) (λ k vs. refl) (λ u n c v xs. refl) q) [
  | inl v ↦ marked_stays w e s t a (m t a v)
  | inr v ↦ elim v [
    | inl k ↦ absurd (true≢false (sym k.3))
    | inr k ↦ let u = and_parts (k.0 == t) (k.1 == a) k.3 in own t a k.0 k.1 k.2 (eqb-true k.0 t u.0) (eqb-true k.1 a u.1)
  ]
]
  where
    own : (t a u b : ℕ) → e ≡ Prepare u b → u ≡ t → b ≡ a → holds (is_prepared_at a) (act_of t (after w e s).book.acts) ≡ true
    own t a u b i j l =
        let n : Prepare u b ≡ e = sym i in
        subst (λ z. holds (is_prepared_at z) (act_of t (after w e s).book.acts) ≡ true) l (subst (λ z. holds (is_prepared_at b) (act_of z (after w e s).book.acts) ≡ true) j (subst (λ z. holds (is_prepared_at b) (act_of u (after w z s).book.acts) ≡ true) n (marked_prepared w u b s (subst (λ z. IsAllowed w z s) i ok))))
