-- An event that is allowed is among the candidates.
use Rattle.std.specs.Prelude.{◌≡◌, refl, ℕ, zero, suc, ◌+◌, ◌-◌, ◌%◌, ◌<◌, ◌==◌, nat_lt, not, is_some, Bool, true, false, ◌&&◌, if◌then◌else◌, Option, Some, None, List, [], ◌∷◌, length, map, find, slice_get, slice_index_or, Contains}
use Rattle.std.specs.List.{AllByRecursion, flat_map, list_any}
use Rattle.std.proofs.Common.{arith, sym, ap, subst, mod-lt, inl, inr, ◌∙◌}
use Rattle.std.proofs.lemmas.Bool.{eqb-true, eq-eqb, and_parts, or_cases, true≢false, cases_lt}
use Rattle.std.proofs.lemmas.List.Elements.{Contains-append_left, Contains-append_right}
use Rattle.protocol.specs.Fixed.{Fixed, IsText}
use Rattle.protocol.specs.Parts.{ControlMessage, Act, Joined, Batch, Pact, Declared, Entry, BatchEntry, ActEntry, Outcome, Machine}
use Rattle.protocol.specs.Events.{Event, Submit, Pass, Form, Admit, Arrive, Ask, Take, Run, Send, End, Close, Complete, Sync, Note, Commit, Settle, Abort, Rollback, DropSub, DropControl, Prepare, Vouch, Decide, Seal, Finish, Reply, Trim}
use Rattle.protocol.specs.Words.{below, holds, sub_of, control_of, waiting_of, outcome_of, act_of, joined_of, batch_of, declared_of, pact_result, result_among, names_pact, batches_on, is_batch_entry, is_doomed, is_live_act, is_open, is_settled}
use Rattle.protocol.specs.Numbers.{from}
use Rattle.protocol.specs.Conditions.{IsAllowed, conditions, refusal}
use Rattle.protocol.specs.Runs.{IsRun, IsQuiet, reached}
use Rattle.protocol.specs.Candidates.{each_two, tids_drawn, bids_drawn, offers, candidates, first_allowed}
use Rattle.protocol_laws.specs.Ranges.{IsWithin, SubInRange, CellInRange, BatchInRange, ActInRange, NumbersInRange}
use Rattle.protocol.specs.Footprints.{HasLogs}
use Rattle.protocol_laws.proofs.first.FirstFalse.{allowed_or_refused}
use Rattle.protocol_laws.proofs.first.Leaves.{has_logs}
use Rattle.protocol_laws.proofs.first.Ranges.{numbers_in_range}
use Rattle.protocol_laws.proofs.first.Times
use Rattle.protocol_laws.proofs.first.Lists.{all_found}
use Rattle.protocol_laws.proofs.machine.TracksKept.{in_range}

-- ---- what lists contain

here : {X : Type 0} (x : X) (xs : List X) → Contains (x ∷ xs) x
here x xs = (0, omega arith, refl)

mapped : {X Y : Type 0} (f : X → Y) (xs : List X) (x : X) → Contains xs x → Contains (map f xs) (f x)
mapped f xs x h = (h.0, omega (arith, h.1, Times.length_map f xs), Times.map_at f xs h.0 x ∙ ap f h.2)

flat_mapped : {X Y : Type 0} (f : X → List Y) (xs : List X) (x : X) (y : Y) (i : ℕ) → i < length xs → slice_index_or xs i x ≡ x → Contains (f x) y → Contains (flat_map f xs) y
flat_mapped f [] x y i l e h = absurd (omega (arith, l))
flat_mapped f (z ∷ xs) x y zero l e h = Contains-append_left (f z) (flat_map f xs) y (subst (λ v. Contains (f v) y) (sym e) h)
flat_mapped f (z ∷ xs) x y (suc i) l e h = Contains-append_right (f z) (flat_map f xs) y (flat_mapped f xs x y i (omega (arith, l)) e h)

of_two : (kind : ℕ → ℕ → Event) (xs ys : List ℕ) (x y : ℕ) → Contains xs x → Contains ys y → Contains (each_two kind xs ys) (kind x y)
of_two kind xs ys x y h g = flat_mapped (λ x. map (kind x) ys) xs x (kind x y) h.0 h.1 h.2 (mapped (kind x) ys y g)

pub in_below : (i n : ℕ) → i < n → Contains (below n) i
in_below i zero h = absurd (omega (arith, h))
in_below i (suc n) h = elim (cases_lt i n) [
  | inl a ↦ Contains-append_left (below n) (n ∷ []) i (in_below i n a)
  | inr b ↦ Contains-append_right (below n) (n ∷ []) i (0, omega arith, omega (arith, h, b))
]

at_from : (low k i : ℕ) (d : ℕ) → i < k → slice_index_or (from low k) i d ≡ low + i
at_from low zero i d h = absurd (omega (arith, h))
at_from low (suc k) zero d h = omega arith
at_from low (suc k) (suc i) d h = omega (arith, at_from (low + 1) k i d (omega (arith, h)))

in_from : (low high n : ℕ) → IsWithin low high n → Contains (from low (high - low)) n
in_from low high n h = (n - low, omega (arith, h.reached, h.below, Times.length_from low (high - low)), omega (arith, h.reached, at_from low (high - low) (n - low) n (omega (arith, h.reached, h.below))))

-- the list at a place of the offers
offered : (xss : List (List Event)) (n : ℕ) (xs : List Event) (e : Event) → slice_get xss n ≡ Some xs → Contains xs e → Contains (flat_map (λ xs. xs) xss) e
offered [] n xs e q h = absurd (cc q)
offered (ys ∷ xss) zero xs e q h = let p : ys ≡ xs = cc q in Contains-append_left ys (flat_map (λ xs. xs) xss) e (subst (λ v. Contains v e) (sym p) h)
offered (ys ∷ xss) (suc n) xs e q h = Contains-append_right ys (flat_map (λ xs. xs) xss) e (offered xss n xs e q h)

-- ---- what is found is in range

record Held {X : Type 0} (p : X → Bool) (o : Option X) : Type 0 where
  it : X
  is : o ≡ Some it
  does : p it ≡ true

held : {X : Type 0} (p : X → Bool) (o : Option X) → holds p o ≡ true → Held p o
held p None h = absurd (true≢false (sym h))
held p (Some x) h = record { it = x; is = refl; does = h }

some : {X : Type 0} (o : Option X) → is_some o ≡ true → Held (λ x. true) o
some None h = absurd (true≢false (sym h))
some (Some x) h = record { it = x; is = refl; does = refl }

cell_in : {X : Type 0} (P : X → Type 0) (p : X → Bool) (xs : List X) (a : ℕ) → AllByRecursion P xs → holds p (slice_get xs a) ≡ true → (x : X) × P x × (p x ≡ true)
cell_in P p [] a g h = absurd (true≢false (sym h))
cell_in P p (x ∷ xs) zero g h = (x, g.0, h)
cell_in P p (x ∷ xs) (suc a) g h = cell_in P p xs a g.1 h

-- found by its key, and so the key is in range
keyed : {X : Type 0} (key : X → ℕ) (P : X → Type 0) (Q : ℕ → Type 0) (xs : List X) (n : ℕ) (x : X) → ((x : X) → P x → Q (key x)) → find (λ x. key x == n) xs ≡ Some x → AllByRecursion P xs → Q n
keyed key P Q xs n x k e h = let f = all_found P (λ x. key x == n) xs x h e in subst Q (eqb-true (key x) n f.1) (k x f.0)

sub_in : {C : Type 0} (w : Fixed C) (s : Machine C) (k a : ℕ) → AllByRecursion (SubInRange w s) s.post.subs → is_some (sub_of k a s.post.subs) ≡ true → IsWithin w.text.opening.next_bid s.ring.next_bid k × (a < length w.text.opening.states)
sub_in w s k a h q =
    let m = some (sub_of k a s.post.subs) q in
    let f = all_found (SubInRange w s) (λ m. (m.bid == k) && (m.actor == a)) s.post.subs m.it h m.is in
    let p = and_parts (m.it.bid == k) (m.it.actor == a) f.1 in
    (subst (IsWithin w.text.opening.next_bid s.ring.next_bid) (eqb-true m.it.bid k p.0) f.0.bid, subst (λ n. n < length w.text.opening.states) (eqb-true m.it.actor a p.1) f.0.actor)

control_in : {C : Type 0} (w : Fixed C) (s : Machine C) (t : ℕ) (p : ControlMessage C → Bool) → NumbersInRange w s → holds p (control_of t s.post.controls) ≡ true → IsWithin w.text.opening.next_tid s.ring.next_tid t
control_in w s t p h q =
    let m = held p (control_of t s.post.controls) q in
    keyed (λ m. m.tid) _ (IsWithin w.text.opening.next_tid s.ring.next_tid) s.post.controls t m.it (λ m g. g) m.is h.controls

act_in : {C : Type 0} (w : Fixed C) (s : Machine C) (t : ℕ) (p : Act → Bool) → NumbersInRange w s → holds p (act_of t s.book.acts) ≡ true → IsWithin w.text.opening.next_tid s.ring.next_tid t
act_in w s t p h q =
    let x = held p (act_of t s.book.acts) q in
    keyed (λ x. x.tid) (ActInRange w s) (IsWithin w.text.opening.next_tid s.ring.next_tid) s.book.acts t x.it (λ x g. g.tid) x.is h.acts

place_in : {C : Type 0} (w : Fixed C) (s : Machine C) (t a : ℕ) (p : Act → Bool) (r : Joined → Bool) → NumbersInRange w s → holds p (act_of t s.book.acts) ≡ true → ((x : Act) → p x ≡ true → holds r (joined_of a x) ≡ true) → a < length w.text.opening.states
place_in w s t a p r h q i =
    let x = held p (act_of t s.book.acts) q in
    let g = all_found (ActInRange w s) (λ x. x.tid == t) s.book.acts x.it h.acts x.is in
    let j = held r (joined_of a x.it) (i x.it x.does) in
    keyed (λ p. p.actor) _ (λ n. n < length w.text.opening.states) x.it.places a j.it (λ p l. l) j.is g.0.actors

batch_in : {C : Type 0} (w : Fixed C) (s : Machine C) (k : ℕ) (p : Batch → Bool) → NumbersInRange w s → holds p (batch_of k s.desk.batches) ≡ true → IsWithin w.text.opening.next_bid s.ring.next_bid k
batch_in w s k p h q =
    let b = held p (batch_of k s.desk.batches) q in
    keyed (λ b. b.bid) (BatchInRange w s) (IsWithin w.text.opening.next_bid s.ring.next_bid) s.desk.batches k b.it (λ b g. g.bid) b.is h.batches

declared_in : {C : Type 0} (w : Fixed C) (s : Machine C) (k a : ℕ) (p : Batch → Bool) (r : Declared → Bool) → NumbersInRange w s → holds p (batch_of k s.desk.batches) ≡ true → ((b : Batch) → p b ≡ true → holds r (declared_of a b) ≡ true) → a < length w.text.opening.states
declared_in w s k a p r h c i =
    let b = held p (batch_of k s.desk.batches) c in
    let g = all_found (BatchInRange w s) (λ b. b.bid == k) s.desk.batches b.it h.batches b.is in
    let j = held r (declared_of a b.it) (i b.it b.does) in
    keyed (λ p. p.actor) _ (λ n. n < length w.text.opening.states) b.it.places a j.it (λ p l. l) j.is g.0.actors

waits_in : {C : Type 0} (w : Fixed C) (s : Machine C) (t a : ℕ) → NumbersInRange w s → holds (λ c. is_some (waiting_of t c.inbox)) (slice_get s.cells a) ≡ true → IsWithin w.text.opening.next_tid s.ring.next_tid t
waits_in w s t a h q =
    let c = cell_in (CellInRange w s) (λ c. is_some (waiting_of t c.inbox)) s.cells a h.cells q in
    let x = some (waiting_of t c.0.inbox) c.2 in
    keyed (λ x. x.tid) _ (IsWithin w.text.opening.next_tid s.ring.next_tid) c.0.inbox t x.it (λ x g. g) x.is c.1.inbox

goes_in : {C : Type 0} (w : Fixed C) (s : Machine C) (t a : ℕ) (p : Outcome C → Bool) → NumbersInRange w s → holds (λ c. holds p (outcome_of t c.outbox)) (slice_get s.cells a) ≡ true → IsWithin w.text.opening.next_tid s.ring.next_tid t
goes_in w s t a p h q =
    let c = cell_in (CellInRange w s) (λ c. holds p (outcome_of t c.outbox)) s.cells a h.cells q in
    let x = held p (outcome_of t c.0.outbox) c.2 in
    keyed (λ x. x.tid) _ (IsWithin w.text.opening.next_tid s.ring.next_tid) c.0.outbox t x.it (λ x g. g) x.is c.1.outbox

-- a batch that has an entry is on the schedule
pub on_schedule : (Q : ℕ → Type 0) (k : ℕ) (es : List Entry) (e : Entry) → find (is_batch_entry k) es ≡ Some e → AllByRecursion Q (batches_on es) → Q k
on_schedule Q k [] e q h = absurd (cc q)
on_schedule Q k (BatchEntry b ∷ es) e q h = by (b.bid == k) refl q (on_schedule Q k es e)
  where
    by : (t : Bool) → (b.bid == k) ≡ t → (if t then Some (BatchEntry b) else find (is_batch_entry k) es) ≡ Some e → (find (is_batch_entry k) es ≡ Some e → AllByRecursion Q (batches_on es) → Q k) → Q k
    by true f q i = subst Q (eqb-true b.bid k f) h.0
    by false f q i = i q h.1
on_schedule Q k (ActEntry x ∷ es) e q h = on_schedule Q k es e q h

stands_in : {C : Type 0} (w : Fixed C) (s : Machine C) (k a : ℕ) (p : Entry → Bool) → NumbersInRange w s → holds (λ c. holds p (find (is_batch_entry k) c.entries)) (slice_get s.cells a) ≡ true → IsWithin w.text.opening.next_bid s.ring.next_bid k
stands_in w s k a p h q =
    let c = cell_in (CellInRange w s) (λ c. holds p (find (is_batch_entry k) c.entries)) s.cells a h.cells q in
    let e = held p (find (is_batch_entry k) c.0.entries) c.2 in
    on_schedule (IsWithin w.text.opening.next_bid s.ring.next_bid) k c.0.entries e.it e.is c.1.batches

-- a PACT that a batch names has a tid that was drawn
names_in : (Q : ℕ → Type 0) (t : ℕ) (ps : List Pact) → AllByRecursion (λ p. Q p.tid) ps → list_any (λ p. p.tid == t) ps ≡ true → Q t
names_in Q t [] h q = absurd (true≢false (sym q))
names_in Q t (p ∷ ps) h q = elim (or_cases (p.tid == t) (list_any (λ p. p.tid == t) ps) q) [ inl a ↦ subst Q (eqb-true p.tid t a) h.0 | inr b ↦ names_in Q t ps h.1 b ]

result_in : {C : Type 0} (w : Fixed C) (s : Machine C) (t : ℕ) (bs : List Batch) → AllByRecursion (BatchInRange w s) bs → is_some (pact_result t bs) ≡ true → IsWithin w.text.opening.next_tid s.ring.next_tid t
result_in w s t [] h q = absurd (true≢false (sym q))
result_in w s t (b ∷ bs) h q = by (names_pact t b) refl q (result_in w s t bs h.1)
  where
    by : (n : Bool) → names_pact t b ≡ n → is_some (if n then result_among t b.pacts else pact_result t bs) ≡ true → (is_some (pact_result t bs) ≡ true → IsWithin w.text.opening.next_tid s.ring.next_tid t) → IsWithin w.text.opening.next_tid s.ring.next_tid t
    by true e q i = names_in (IsWithin w.text.opening.next_tid s.ring.next_tid) t b.pacts h.0.tids e
    by false e q i = i q

-- ---- event by event

abbrev groups : {C : Type 0} → Fixed C → Machine C → List (List Event)
groups w s = offers (bids_drawn w s) (tids_drawn w s) (below (length s.cells)) w s

is_bid : {C : Type 0} (w : Fixed C) (s : Machine C) (k : ℕ) → IsWithin w.text.opening.next_bid s.ring.next_bid k → Contains (bids_drawn w s) k
is_bid w s k h = in_from w.text.opening.next_bid s.ring.next_bid k h

is_tid : {C : Type 0} (w : Fixed C) (s : Machine C) (t : ℕ) → IsWithin w.text.opening.next_tid s.ring.next_tid t → Contains (tids_drawn w s) t
is_tid w s t h = in_from w.text.opening.next_tid s.ring.next_tid t h

is_cell : {C : Type 0} (w : Fixed C) (s : Machine C) (a : ℕ) → NumbersInRange w s → a < length w.text.opening.states → Contains (below (length s.cells)) a
is_cell w s a h l = in_below a (length s.cells) (omega (arith, l, h.actors))

pub contained : {C : Type 0} (w : Fixed C) (e : Event) (s : Machine C) → IsText w.text → HasLogs w s → NumbersInRange w s → IsAllowed w e s → Contains (candidates w s) e
unfolding conditions
contained w (Submit n) s text logs h ok =
    let q = and_parts (n == s.ring.next_tx) (nat_lt n (length w.text.txs)) ok.0 in
    offered (groups w s) 0 _ _ refl (subst (λ m. Contains (Submit s.ring.next_tx ∷ []) (Submit m)) (sym (eqb-true n s.ring.next_tx q.0)) (here _ []))
contained w (Pass c) s text logs h ok =
    let e : c ≡ (s.ring.holder + 1) % w.text.coordinators = eqb-true c _ ok.0 in
    offered (groups w s) 1 _ _ refl (mapped Pass (below w.text.coordinators) c (in_below c w.text.coordinators (omega (arith, e, mod-lt (s.ring.holder + 1) text.some_coordinators))))
contained w (Form k) s text logs h ok = offered (groups w s) 2 _ _ refl (subst (λ m. Contains (Form s.ring.next_bid ∷ []) (Form m)) (sym (eqb-true k s.ring.next_bid ok.0)) (here _ []))
contained w (Admit t) s text logs h ok = offered (groups w s) 3 _ _ refl (subst (λ m. Contains (Admit s.ring.next_tid ∷ []) (Admit m)) (sym (eqb-true t s.ring.next_tid ok.0)) (here _ []))
contained w (Arrive k a) s text logs h ok = let x = sub_in w s k a h.subs ok.0 in offered (groups w s) 4 _ _ refl (of_two Arrive _ _ k a (is_bid w s k x.0) (is_cell w s a h x.1))
contained w (Ask t a) s text logs h ok = offered (groups w s) 5 _ _ refl (of_two Ask _ _ t a (is_tid w s t (control_in w s t _ h ok.0)) (in_below a _ (in_range _ s.cells a ok.1.1.0)))
contained w (Take t a) s text logs h ok = offered (groups w s) 6 _ _ refl (of_two Take _ _ t a (is_tid w s t (control_in w s t _ h ok.0)) (in_below a _ (in_range _ s.cells a ok.1.0)))
contained w (Run t a) s text logs h ok = offered (groups w s) 7 _ _ refl (of_two Run _ _ t a (is_tid w s t (waits_in w s t a h ok.0)) (in_below a _ (in_range _ s.cells a ok.0)))
contained w (Send t a) s text logs h ok = offered (groups w s) 8 _ _ refl (of_two Send _ _ t a (is_tid w s t (goes_in w s t a _ h ok.0)) (in_below a _ (in_range _ s.cells a ok.0)))
contained w (End t a) s text logs h ok = offered (groups w s) 9 _ _ refl (of_two End _ _ t a (is_tid w s t (goes_in w s t a _ h ok.0)) (in_below a _ (in_range _ s.cells a ok.0)))
contained w (Close t a) s text logs h ok = offered (groups w s) 10 _ _ refl (of_two Close _ _ t a (is_tid w s t (result_in w s t s.desk.batches h.batches ok.0)) (in_below a _ (in_range _ s.cells a ok.1.0)))
contained w (Complete k a) s text logs h ok = offered (groups w s) 11 _ _ refl (of_two Complete _ _ k a (is_bid w s k (stands_in w s k a _ h ok.0)) (in_below a _ (in_range _ s.cells a ok.0)))
contained w (Sync l) s text logs h ok = offered (groups w s) 12 _ _ refl (mapped Sync (below w.text.logs) l (in_below l w.text.logs (omega (arith, logs, in_range _ s.logs l ok.0))))
contained w (Note k a) s text logs h ok = offered (groups w s) 13 _ _ refl (of_two Note _ _ k a (is_bid w s k (batch_in w s k _ h ok.0)) (is_cell w s a h (declared_in w s k a _ (λ p. not p.noted) h ok.0 (λ b c. (and_parts (is_open b) _ c).1))))
contained w (Commit k) s text logs h ok = offered (groups w s) 14 _ _ refl (mapped Commit _ k (is_bid w s k (batch_in w s k _ h ok.0)))
contained w (Settle k) s text logs h ok = offered (groups w s) 15 _ _ refl (mapped Settle _ k (is_bid w s k (batch_in w s k _ h ok.0)))
contained w (Abort k) s text logs h ok = offered (groups w s) 16 _ _ refl (mapped Abort _ k (is_bid w s k (batch_in w s k _ h ok.0)))
contained w (Rollback a) s text logs h ok = offered (groups w s) 17 _ _ refl (mapped Rollback _ a (in_below a _ (in_range _ s.cells a ok.0)))
contained w (DropSub k a) s text logs h ok = let x = sub_in w s k a h.subs ok.0 in offered (groups w s) 18 _ _ refl (of_two DropSub _ _ k a (is_bid w s k x.0) (is_cell w s a h x.1))
contained w (DropControl t) s text logs h ok = offered (groups w s) 19 _ _ refl (mapped DropControl _ t (is_tid w s t (control_in w s t _ h ok.1.0)))
contained w (Prepare t a) s text logs h ok = offered (groups w s) 20 _ _ refl (of_two Prepare _ _ t a (is_tid w s t (act_in w s t _ h ok.0)) (is_cell w s a h (place_in w s t a _ (λ p. not p.prepared) h ok.1.0 (λ x c. c))))
contained w (Vouch t a) s text logs h ok = offered (groups w s) 21 _ _ refl (of_two Vouch _ _ t a (is_tid w s t (act_in w s t _ h ok.0)) (is_cell w s a h (place_in w s t a _ (λ p. p.prepared && not p.vouched) h ok.0 (λ x c. (and_parts (not (is_doomed x.status)) _ (and_parts (is_live_act x) _ c).1).1))))
contained w (Decide t) s text logs h ok = offered (groups w s) 22 _ _ refl (mapped Decide _ t (is_tid w s t (act_in w s t _ h ok.0)))
contained w (Seal t) s text logs h ok = offered (groups w s) 23 _ _ refl (mapped Seal _ t (is_tid w s t (act_in w s t _ h ok.0)))
contained w (Finish t a) s text logs h ok = offered (groups w s) 24 _ _ refl (of_two Finish _ _ t a (is_tid w s t (act_in w s t _ h ok.0)) (is_cell w s a h (place_in w s t a _ (λ p. not p.finished) h ok.1.0 (λ x c. c))))
contained w (Reply n) s text logs h ok = offered (groups w s) 25 _ _ refl (mapped Reply (below (length w.text.txs)) n (in_below n (length w.text.txs) (omega (arith, h.replied, in_range not s.desk.replied n ok.0))))
contained w (Trim k a) s text logs h ok = offered (groups w s) 26 _ _ refl (of_two Trim _ _ k a (is_bid w s k (batch_in w s k _ h ok.0)) (is_cell w s a h (declared_in w s k a _ (λ p. not p.trimmed) h ok.0 (λ b c. (and_parts (not b.aborted) _ (and_parts (is_settled b.stage) _ c).1).1))))

pub allowed_is_candidate : {C : Type 0} (w : Fixed C) (es : List Event) (e : Event) → IsText w.text → IsRun w es → IsAllowed w e (reached w es) → Contains (candidates w (reached w es)) e
allowed_is_candidate w es e text run ok = contained w e (reached w es) text (has_logs w es text run) (numbers_in_range w es text run) ok

-- ---- quiet

none_passes : {X : Type 0} (p : X → Bool) (xs : List X) (x : X) (i : ℕ) → find p xs ≡ None → i < length xs → slice_index_or xs i x ≡ x → p x ≡ false
none_passes p [] x i e l q = absurd (omega (arith, l))
none_passes p (y ∷ xs) x i e l q = by (p y) refl e i l q (none_passes p xs x)
  where
    by : (b : Bool) → p y ≡ b → (if b then Some y else find p xs) ≡ None → (i : ℕ) → i < length (y ∷ xs) → slice_index_or (y ∷ xs) i x ≡ x
        → ((i : ℕ) → find p xs ≡ None → i < length xs → slice_index_or xs i x ≡ x → p x ≡ false) → p x ≡ false
    by true f e i l q k = absurd (cc e)
    by false f e zero l q k = subst (λ z. p z ≡ false) q f
    by false f e (suc i) l q k = k i e (omega (arith, l)) q

pub quiet : {C : Type 0} (w : Fixed C) (es : List Event) → IsText w.text → IsRun w es → first_allowed w (reached w es) ≡ None → IsQuiet w (reached w es)
quiet w es text run none = λ e ok.
    let c = allowed_is_candidate w es e text run ok in
    let n = none_passes (λ e. refusal w e (reached w es) == 0) (candidates w (reached w es)) e c.0 none c.1 c.2 in
    absurd (true≢false (sym (eq-eqb (refusal w e (reached w es)) 0 ((allowed_or_refused w e (reached w es)).1 ok)) ∙ n))
