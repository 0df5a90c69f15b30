-- The rests of a program's transactions hold values within 64 bits, and their slices leave states.
use Rattle.std.specs.Prelude.{◌≡◌, refl, ℕ, zero, suc, ◌+◌, ◌<◌, ◌≤◌, ◌^◌, nat_lt, ◌==◌, Bool, true, false, if◌then◌else◌, ℤ, pos, negsuc, Result, Ok, Err, List, [], ◌∷◌, length}
use Rattle.std.specs.List.{AllByRecursion}
use Rattle.std.proofs.Common.{arith}
use Rattle.std.proofs.lemmas.Bool.{ltb-true}
use Rattle.snap_base.specs.declared.transactions.State.{State}
use Rattle.aml_slice.specs.aml_tree.Tree.{CheckedMethod}
use Rattle.aml_slice.specs.aml_check.Closed.{IsClosedProgram}
use Rattle.aml_slice.specs.aml_check.Names.{method_at}
use Rattle.aml_slice.specs.aml_check.Meaning.{actor_of, admitted, no_actor}
use Rattle.aml_slice.specs.aml_resume.Places.{Standing}
use Rattle.aml_slice.specs.aml_resume.Pausing.{Pause, Through, Returned, Calling, Failed}
use Rattle.snap_base.specs.declared.next.Next.{Next}
use Rattle.snap_base.specs.declared.next.Next.TheVariants.{Go, Ended}
use Rattle.snap_base.proofs.Lists.{all_push}
use Rattle.aml_slice.specs.Controls.{Frame, Rest, progress_in, most_waiting, moves_left}
use Rattle.aml_slice.specs.Slicing.{Move, To, Out, SliceEnd, returned, unless_refused, called_on, moved_by, move, after_move, slice_end_in, slice_end}
use Rattle.record_log.specs.txn_records.Records.{IsState}
use Rattle.run_effects.proofs.ValuesFit.{Has, Fits, AllFit, nought_fits, method_small}
use Rattle.run_effects.proofs.StatesKept.{ResultFits}
use Rattle.run_effects.proofs.PausesFit.{FitPause, method_fit}

pub record FitFrame (f : Frame) : Type 0 where
  pub actor : f.actor < 2 ^ 63
  pub variables : AllFit f.standing.variables

pub record FitRest (c : Rest) : Type 0 where
  pub top : FitFrame c.top
  pub waiting : AllByRecursion FitFrame c.waiting

abbrev pub FitMove : Move → Type 0
FitMove (To d t) = FitRest d × IsState t
FitMove (Out r t) = ResultFits r × IsState t

abbrev pub FitNext : Next Rest → Type 0
FitNext (Go b d) = FitRest d
FitNext (Ended r) = ResultFits r

pub record FitEnd (x : SliceEnd) : Type 0 where
  pub state : IsState x.state
  pub next : FitNext x.next

-- ---- one move

returned_fits : (c : Rest) (fs : List Frame) (v : ℤ) (t : State) (n : ℕ) → AllByRecursion FitFrame fs → Fits v → IsState t → FitMove (returned c fs v t n)
returned_fits c [] v t n h fits is = (fits, is)
returned_fits c (f ∷ fs) v t n h fits is = (record { top = record { actor = h.0.actor; variables = all_push Fits f.standing.variables v h.0.variables fits }; waiting = h.1 }, is)

refused_fits : {A : Type 0} (P : A → Type 0) (t : State) (m : Result A ℕ) (next : A → Move) → IsState t → Has P m → ((x : A) → P x → FitMove (next x)) → FitMove (unless_refused t m next)
refused_fits P t (Ok x) next is h k = k x h
refused_fits P t (Err code) next is h k = (tt, is)

actor_below : (count : ℕ) (target : ℤ) → Has (λ a. a < count) (actor_of count target)
actor_below count (pos n) = by (nat_lt n count) refl
  where
    by : (b : Bool) → nat_lt n count ≡ b → Has (λ a. a < count) (if b then Ok n else Err no_actor)
    by true e = ltb-true n count e
    by false e = tt
actor_below count (negsuc n) = tt

anything : {A : Type 0} (m : Result A ℕ) → Has (λ x. Unit {0}) m
anything (Ok x) = tt
anything (Err code) = tt

either : (b : Bool) (x y : Move) → FitMove x → FitMove y → FitMove (if b then x else y)
either true x y p q = p
either false x y p q = q

called_fits : (count : ℕ) (c : Rest) (target : ℤ) (m : ℕ) (arguments : List ℤ) (g : Standing) (t : State) (n : ℕ) → count ≤ 2 ^ 63 → FitRest c → AllFit arguments → AllFit g.variables → IsState t → FitMove (called_on count c target m arguments g t n)
called_fits count c target m arguments g t n few h all variables is =
    refused_fits (λ a. a < count) t (actor_of count target) _ is (actor_below count target) (λ a below.
    either (nat_lt (length c.waiting) most_waiting) _ _
    (refused_fits (λ q. Unit {0}) t (admitted a (record (progress_in c []) { statements = n })) _ is (anything _) (λ q _.
    (record { top = record { actor = omega (arith, below, few); variables = all }; waiting = (record { actor = h.top.actor; variables = variables }, h.waiting) }, is)))
    (tt, is))

moved_fits : (count : ℕ) (c : Rest) (p : Pause) → count ≤ 2 ^ 63 → FitRest c → FitPause p → FitMove (moved_by count c p)
moved_fits count c (Through vs t n) few h f = returned_fits c c.waiting (pos 0) t n h.waiting nought_fits f.1
moved_fits count c (Returned v t n) few h f = returned_fits c c.waiting v t n h.waiting f.0 f.1
moved_fits count c (Calling target m arguments g t n) few h f = called_fits count c target m arguments g t n few h f.0 f.1 f.2
moved_fits count c (Failed code t n) few h f = (tt, f)

-- ---- a slice

after_fits : (own : ℕ) (more : Rest → State → SliceEnd) (m : Move) → FitMove m → ((d : Rest) (t : State) → FitRest d → IsState t → FitEnd (more d t)) → FitEnd (after_move own more m)
after_fits own more (To d t) h k = by (d.top.actor == own)
  where
    by : (b : Bool) → FitEnd (if b then more d t else record { state = t; next = Go (record { 0 = d.top.actor }) d })
    by true = k d t h.0 h.1
    by false = record { state = h.1; next = h.0 }
after_fits own more (Out r t) h k = record { state = h.1; next = h.0 }

slices_fit : (p : List CheckedMethod) (count own more : ℕ) → IsClosedProgram p → count ≤ 2 ^ 63 → (c : Rest) (s : State) → FitRest c → IsState s → FitEnd (slice_end_in more p count own c s)
slices_fit p count own zero closed few = λ c s h is. record { state = is; next = tt }
slices_fit p count own (suc more) closed few = λ c s h is.
    after_fits own (slice_end_in more p count own) (move p count c s)
    (moved_fits count c _ few h (method_fit c.top.actor (method_at p c.top.method).body c.top.standing s c.statements h.top.actor (method_small p p c.top.method closed.methods) h.top.variables is))
    (slices_fit p count own more closed few)

pub slice_fits : (p : List CheckedMethod) (count : ℕ) (c : Rest) (s : State) → IsClosedProgram p → count ≤ 2 ^ 63 → FitRest c → IsState s → FitEnd (slice_end p count c s)
slice_fits p count c s closed few h is = slices_fit p count c.top.actor (moves_left c + 1) closed few c s h is
