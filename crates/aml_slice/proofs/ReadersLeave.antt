-- A slice of a control all of whose frames are of methods that promise only to read leaves the state, and what it hands on
-- has such frames alone.
use Rattle.std.proofs.Common.{◌≡◌, ℕ, zero, suc, ◌+◌, nat_lt, ◌==◌, Bool, true, false, if◌then◌else◌, ℤ, pos, Result, Ok, Err, List, [], ◌∷◌, length, inl, inr, refl, sym, ◌∙◌, subst}
use Rattle.std.specs.Prelude.{IsTrue}
use Rattle.std.specs.List.{AllByRecursion}
use Rattle.std.proofs.lemmas.Bool.{cases_lt}
use Rattle.std.proofs.lemmas.List.{get_or_past}
use Rattle.std.proofs.lemmas.List.Elements.{All-get_or, All-from_recursion}
use Rattle.snap_base.specs.declared.ids.Tid.{Tid}
use Rattle.snap_base.specs.declared.transactions.State.{State}
use Rattle.snap_base.specs.declared.transactions.Tx.{Tx}
use Rattle.snap_base.specs.declared.transactions.TxResult.TheVariants as result
use Rattle.aml_tree.specs.Tree.{CheckedMethod}
use Rattle.aml_check.specs.Closed.{IsClosedMethod, IsClosedProgram, OnlyReads}
use Rattle.aml_check.specs.Meaning.{actor_of, admitted, too_deep}
use Rattle.aml_check.specs.Names.{method_at, no_method}
use Rattle.aml_resume.specs.Places.{Standing}
use Rattle.aml_resume.specs.Pausing.{Pause, Through, Returned, Calling, Failed, method_pause}
use Rattle.aml_resume.specs.Reading.{LeavesState, ReadingLeaves}
use Rattle.snap_base.specs.declared.next.Next.TheVariants.{Go}
use Rattle.aml_slice.specs.Controls.{Frame, Rest, progress_in, most_waiting, moves_left}
use Rattle.aml_slice.specs.Readers.{IsReading, AllReading, HandsOnReading}
use Rattle.aml_slice.specs.Slicing.{Move, To, Out, unless_refused, returned, entered, called_on, moved_by, move, SliceEnd, actor_id, after_move, slice_end_in, slice_end, started}

-- a method that promises only to read keeps the promise
promised : (p : List CheckedMethod) (m : ℕ) → IsClosedProgram p → IsTrue (method_at p m).is_read → OnlyReads p (method_at p m).body
promised p m closed reads = elim (cases_lt m (length p)) [
  | inl h ↦ let here : IsClosedMethod p (method_at p m) = All-get_or (IsClosedMethod p) p m no_method h (All-from_recursion (IsClosedMethod p) p closed.methods) in here.promise reads
  | inr past ↦ let none : method_at p m ≡ no_method = get_or_past p m no_method past in subst (λ (t : CheckedMethod). OnlyReads p t.body) (sym none) tt
]

-- ---- one move

abbrev MoveReads : List CheckedMethod → State → Move → Type 0
MoveReads p s (To d t) = (t ≡ s) × AllReading p d
MoveReads p s (Out r t) = t ≡ s

returned_reads : (p : List CheckedMethod) (c : Rest) (fs : List Frame) (v : ℤ) (s t : State) (n : ℕ) → t ≡ s → AllByRecursion (IsReading p) fs → MoveReads p s (returned c fs v t n)
returned_reads p c [] v s t n same all = same
returned_reads p c (f ∷ fs) v s t n same all = (same, all)

refused_reads : {A : Type 0} (p : List CheckedMethod) (s t : State) (o : Result A ℕ) (next : A → Move) → t ≡ s → ((x : A) → MoveReads p s (next x)) → MoveReads p s (unless_refused t o next)
refused_reads p s t (Ok x) next same h = h x
refused_reads p s t (Err code) next same h = same

test_reads : (p : List CheckedMethod) (s : State) (b : Bool) (x y : Move) → MoveReads p s x → MoveReads p s y → MoveReads p s (if b then x else y)
test_reads p s true x y h k = h
test_reads p s false x y h k = k

called_reads : (p : List CheckedMethod) (count : ℕ) (c : Rest) (target : ℤ) (m : ℕ) (arguments : List ℤ) (g : Standing) (s t : State) (n : ℕ) → t ≡ s → IsTrue (method_at p m).is_read → AllReading p c
    → MoveReads p s (called_on count c target m arguments g t n)
called_reads p count c target m arguments g s t n same reads all =
    refused_reads p s t (actor_of count target)
    (λ a. if nat_lt (length c.waiting) most_waiting then unless_refused t (admitted a (record (progress_in c []) { statements = n })) (λ q. To (entered c g a m arguments q) t) else Out (result.Fail too_deep) t) same
    (λ a.
    test_reads p s (nat_lt (length c.waiting) most_waiting) (unless_refused t (admitted a (record (progress_in c []) { statements = n })) (λ q. To (entered c g a m arguments q) t)) (Out (result.Fail too_deep) t)
    (refused_reads p s t (admitted a (record (progress_in c []) { statements = n })) (λ q. To (entered c g a m arguments q) t) same (λ q. (same, (reads, all)))) same)

moved_reads : (p : List CheckedMethod) (count : ℕ) (c : Rest) (s : State) (x : Pause) → LeavesState p s x → AllReading p c → MoveReads p s (moved_by count c x)
moved_reads p count c s (Through vs t n) h all = returned_reads p c c.waiting (pos 0) s t n h all.1
moved_reads p count c s (Returned v t n) h all = returned_reads p c c.waiting v s t n h all.1
moved_reads p count c s (Calling target m arguments g t n) h all = called_reads p count c target m arguments g s t n h.0 h.1 all
moved_reads p count c s (Failed code t n) h all = h

move_reads : ReadingLeaves → (p : List CheckedMethod) (count : ℕ) (c : Rest) (s : State) → IsClosedProgram p → AllReading p c → MoveReads p s (move p count c s)
move_reads leaves p count c s closed all =
    let body = (method_at p c.top.method).body in
    moved_reads p count c s (method_pause c.top.actor (method_at p c.top.method).body c.top.standing s c.statements) (leaves p c.top.actor (method_at p c.top.method).body c.top.standing s c.statements (promised p c.top.method closed all.0)) all

-- ---- a slice

pub record EndReads (p : List CheckedMethod) (s : State) (x : SliceEnd) : Type 0 where
  pub state : x.state ≡ s
  pub next : HandsOnReading p x.next

after_reads : (p : List CheckedMethod) (own : ℕ) (more : Rest → State → SliceEnd) (s : State) (x : Move) → ((d : Rest) (t : State) → AllReading p d → EndReads p t (more d t)) → MoveReads p s x → EndReads p s (after_move own more x)
after_reads p own more s (To d t) h m = by (d.top.actor == own)
  where
    by : (b : Bool) → EndReads p s (if b then more d t else record { state = t; next = Go (actor_id d.top.actor) d })
    by true = let e = h d t m.1 in record { state = e.state ∙ m.0; next = e.next }
    by false = record { state = m.0; next = m.1 }
after_reads p own more s (Out r t) h m = record { state = m; next = tt }

ends_in_reads : ReadingLeaves → (f : ℕ) (p : List CheckedMethod) (count own : ℕ) (c : Rest) (s : State) → IsClosedProgram p → AllReading p c → EndReads p s (slice_end_in f p count own c s)
ends_in_reads leaves zero p count own c s closed all = record { state = refl; next = tt }
ends_in_reads leaves (suc f) p count own c s closed all =
    after_reads p own (slice_end_in f p count own) s (move p count c s) (λ d t more. ends_in_reads leaves f p count own d t closed more) (move_reads leaves p count c s closed all)

pub end_reads : ReadingLeaves → (p : List CheckedMethod) (count : ℕ) (c : Rest) (s : State) → IsClosedProgram p → AllReading p c → EndReads p s (slice_end p count c s)
end_reads leaves p count c s closed all = ends_in_reads leaves (moves_left c + 1) p count c.top.actor c s closed all

pub started_reads : (p : List CheckedMethod) (tid : Tid) (tx : Tx) → IsTrue (method_at p tx.method).is_read → AllReading p (started tid tx)
started_reads p tid tx reads = (reads, tt)
