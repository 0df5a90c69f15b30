-- A batch that is formed has an actor; and in an actor's boxes lies one thing at most of each transaction that it has an
-- entry of.
use Rattle.std.specs.Prelude.{◌≡◌, refl, ℕ, zero, suc, ◌+◌, ◌≤◌, ◌==◌, true, false, List, [], ◌∷◌, ◌++◌, length, map, slice_index_or}
use Rattle.std.specs.List.{list_any}
use Rattle.std.proofs.Common.{arith, sym, ap, subst, inl, inr, ◌∙◌}
use Rattle.std.proofs.lemmas.Bool.{true≢false, or_cases}
use Rattle.snap_base.specs.declared.transactions.State.{State}
use Rattle.snap_base.specs.declared.transactions.Tx.{Tx}
use Rattle.snap_base.proofs.Lists.{map_twice}
use Rattle.protocol.specs.Facts.{Alone}
use Rattle.protocol.specs.Fixed.{Fixed, IsText, base}
use Rattle.protocol.specs.Parts.{Slot, Entry, BatchEntry, ActEntry, Cell, Machine}
use Rattle.protocol.specs.Events.{Event, Form}
use Rattle.protocol.specs.Words.{is_empty, has_entry, names_slot}
use Rattle.protocol.specs.Numbers.{times, one_if, flat, waiting_tids, outcome_tids}
use Rattle.protocol.specs.Conditions.{IsAllowed, conditions}
use Rattle.protocol.specs.Effects.{cell_at, no_cell}
use Rattle.protocol.specs.Rests.{IsRest, IsTxIn}
use Rattle.protocol.specs.Runs.{IsRun, reached}
use Rattle.protocol.specs.Laws.{AfterEveryRun, AfterEveryRunWithHistory}
use Rattle.protocol.specs.OnRing as ring
use Rattle.protocol.specs.OnDesk as desk
use Rattle.protocol_theorems.specs.Bounds.{BatchesHaveActors, BoxesAreFew, tids_here}
use Rattle.protocol_laws.proofs.first.Times
use Rattle.protocol_laws.proofs.first.Controls as controls
use Rattle.protocol_laws.proofs.first.Lists.{all_join, all_map}
use Rattle.protocol_laws.proofs.machine.Good.{Given}
use Rattle.protocol_laws.proofs.machine.AllGood.{none_allowed}
use Rattle.protocol_theorems.proofs.quiet.BatchesKnown as of_batches
use Rattle.protocol_theorems.proofs.quiet.QuietRuns.{known_after}
use Rattle.protocol_theorems.proofs.quiet.BoxedKept.{Boxed}
use Rattle.protocol_theorems.proofs.quiet.NoControls.{all_known}
use Rattle.protocol_theorems.proofs.quiet.LieInOrder.{no_cell_at}
use Rattle.protocol_theorems.proofs.bounds.Fewer.{fewer_of}

-- ---- actors of a batch

mapped_empty : {X : Type 0} (f : ℕ → X) (xs : List ℕ) → is_empty (map f xs) ≡ is_empty xs
mapped_empty f [] = refl
mapped_empty f (x ∷ xs) = refl

some_actor : {C : Type 0} (w : Fixed C) (es : List Event) → IsText w.text → IsRun w es → (k : ℕ) → IsAllowed w (Form k) (reached w es) → (n : ℕ) → length w.text.opening.states ≡ n → is_empty (ring.next_actors w.text (reached w es).ring) ≡ false
unfolding conditions
some_actor w es v run k ok (suc n) l =
    let some : 1 ≤ length w.text.opening.states = omega (arith, l) in
    sym (mapped_empty desk.new_declared (ring.next_actors w.text (reached w es).ring)) ∙ of_batches.somewhere_new w (reached w es) v some (known_after w es v some run).waits ok.1.0
some_actor w [] v run k ok zero l = absurd (none_allowed w (Form k) v l ok)
some_actor w (e ∷ es) v run k ok zero l = absurd (none_allowed w e v l run.0)

pub batches_have_actors : {C : Type 0} → AfterEveryRun (BatchesHaveActors {C = C})
batches_have_actors w es v run = λ k ok. some_actor w es v run k ok (length w.text.opening.states) refl

-- ---- boxes

slot_here : (t : ℕ) (ss : List Slot) → list_any (λ s. s.tid == t) ss ≡ true → 1 ≤ times t (map (λ s. s.tid) ss)
slot_here t [] h = absurd (true≢false (sym h))
slot_here t (s ∷ ss) h = elim (or_cases (s.tid == t) (list_any (λ s. s.tid == t) ss) h) [
  | inl e ↦ omega (arith, Times.times_cons t s.tid (map (λ s. s.tid) ss), ap one_if e)
  | inr e ↦ omega (arith, Times.times_cons t s.tid (map (λ s. s.tid) ss), slot_here t ss e)
]

tid_here : (t : ℕ) (es : List Entry) → has_entry t es ≡ true → 1 ≤ times t (tids_here es)
tid_here t [] h = absurd (true≢false (sym h))
tid_here t (BatchEntry b ∷ es) h = elim (or_cases (names_slot t b) (has_entry t es) h) [
  | inl e ↦ omega (arith, Times.times_append t (map (λ s. s.tid) b.slots) (tids_here es), slot_here t b.slots e)
  | inr e ↦ omega (arith, Times.times_append t (map (λ s. s.tid) b.slots) (tids_here es), tid_here t es e)
]
tid_here t (ActEntry x ∷ es) h = elim (or_cases (x.tid == t) (has_entry t es) h) [
  | inl e ↦ omega (arith, Times.times_cons t x.tid (tids_here es), ap one_if e)
  | inr e ↦ omega (arith, Times.times_cons t x.tid (tids_here es), tid_here t es e)
]

-- one of some cells has no more than all of them
one_most : {C : Type 0} (n : ℕ) (f : Cell C → List ℕ) (cs : List (Cell C)) (a : ℕ) → f no_cell ≡ [] → times n (f (slice_index_or cs a no_cell)) ≤ times n (flat (map f cs))
one_most n f [] a e = omega (arith, ap (times n) e)
one_most n f (c ∷ cs) zero e = omega (arith, Times.times_append n (f c) (flat (map f cs)))
one_most n f (c ∷ cs) (suc a) e = omega (arith, one_most n f cs a e, Times.times_append n (f c) (flat (map f cs)))

in_boxes : {C : Type 0} → Cell C → List ℕ
in_boxes c = waiting_tids c.inbox ++ outcome_tids c.outbox

boxed_once : {C : Type 0} (n : ℕ) (s : Machine C) (a : ℕ) → times n (Rattle.protocol.specs.Numbers.controls_in s) ≤ 1 → times n (in_boxes (cell_at s a)) ≤ 1
unfolding in_boxes
boxed_once {C} n s a once = omega (
  arith,
  once,
  Times.times_append n (waiting_tids (cell_at s a).inbox) (outcome_tids (cell_at s a).outbox),
  controls.parted n s.post.controls (map (λ c. c.inbox) s.cells) (map (λ c. c.outbox) s.cells),
  one_most {C = C} n (λ c. waiting_tids c.inbox) s.cells a refl,
  one_most {C = C} n (λ c. outcome_tids c.outbox) s.cells a refl,
  ap (λ z. times n (flat z)) (map_twice waiting_tids (λ (c : Cell C). c.inbox) s.cells),
  ap (λ z. times n (flat z)) (map_twice outcome_tids (λ (c : Cell C). c.outbox) s.cells),
)

few_boxed : {C : Type 0} (w : Fixed C) (Of : Tx → C → Type 0) (finish : C → List State → Alone) (es : List Event) → Given w Of finish → IsRun w es → (a : ℕ) → length (cell_at (reached w es) a).inbox + length (cell_at (reached w es) a).outbox ≤ length (tids_here (cell_at (reached w es) a).entries)
unfolding Boxed in_boxes
few_boxed {C} w Of finish es v run a =
    let s = reached w es in
    let entries = (cell_at s a).entries in
    let boxed = (all_known w Of finish es v run).boxed a in
    let once = (controls.controls_in_one_place w es v.text run).one in
    let here = all_join (λ n. 1 ≤ times n (tids_here entries)) (waiting_tids (cell_at s a).inbox) (outcome_tids (cell_at s a).outbox)
    (all_map (λ x. has_entry x.tid entries ≡ true) (λ n. 1 ≤ times n (tids_here entries)) (λ x. x.tid) (cell_at s a).inbox (λ x q. tid_here x.tid entries q) boxed.0)
    (all_map (λ x. has_entry x.tid entries ≡ true) (λ n. 1 ≤ times n (tids_here entries)) (λ x. x.tid) (cell_at s a).outbox (λ x q. tid_here x.tid entries q) boxed.1) in
    omega (
      arith,
      Times.length_join (waiting_tids (cell_at s a).inbox) (outcome_tids (cell_at s a).outbox),
      Times.length_map (λ x. x.tid) (cell_at s a).inbox,
      Times.length_map (λ x. x.tid) (cell_at s a).outbox,
      fewer_of (waiting_tids (cell_at s a).inbox ++ outcome_tids (cell_at s a).outbox) (tids_here entries) (λ n. boxed_once n s a (once n)) here,
    )

pub boxes_are_few : {C : Type 0} → AfterEveryRunWithHistory (BoxesAreFew {C = C})
boxes_are_few {C} w finish es f t run = by es run (length w.text.opening.states) refl
  where
    by : (es : List Event) → IsRun w es → (n : ℕ) → length w.text.opening.states ≡ n → (a : ℕ) → length (cell_at (reached w es) a).inbox + length (cell_at (reached w es) a).outbox ≤ length (tids_here (cell_at (reached w es) a).entries)
    by es run (suc n) l a = few_boxed w (IsRest w.code (IsTxIn w.text)) finish es (record { text = t; actors = omega (arith, l); facts = f }) run a
    by [] run zero l a = subst (λ c. length c.inbox + length c.outbox ≤ length (tids_here c.entries)) (sym (no_cell_at {C = C} (base w.text) w.text.opening.states a l)) (omega arith)
    by (e ∷ es) run zero l a = absurd (none_allowed w e t l run.0)
