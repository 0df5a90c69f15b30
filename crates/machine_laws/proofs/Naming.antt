-- A control's tid names it, and nothing else comes of it: what becomes of a transaction does not depend on its tid.
use Rattle.std.proofs.Common.{◌≡◌, ℕ, zero, suc, ◌+◌, nat_lt, ◌==◌, Bool, true, false, if◌then◌else◌, ℤ, pos, Result, Ok, Err, List, [], ◌∷◌, length, set, refl, ap, ◌∙◌}
use Rattle.snap_base.specs.declared.ids.Tid.{Tid}
use Rattle.snap_base.specs.declared.transactions.State.{State}
use Rattle.snap_base.specs.declared.transactions.TxResult.TheVariants as result
use Rattle.aml_tree.specs.Tree.{CheckedMethod}
use Rattle.aml_check.specs.Names.{method_at}
use Rattle.snap_base.specs.Outcomes.{Alone}
use Rattle.aml_check.specs.Meaning.{Progress, state_at, actor_of, admitted, too_deep}
use Rattle.aml_resume.specs.Places.{Standing}
use Rattle.aml_resume.specs.Pausing.{Pause, Through, Returned, Calling, Failed, method_pause}
use Rattle.snap_base.specs.declared.next.Next.{Next}
use Rattle.snap_base.specs.declared.next.Next.TheVariants.{Go, Ended}
use Rattle.aml_slice.specs.Controls.{Frame, Rest, progress_in, most_waiting, moves_left}
use Rattle.aml_slice.specs.Slicing.{Move, To, Out, unless_refused, returned, entered, moved_by, move, SliceEnd, actor_id, after_move, slice_end_in, slice_end}
use Rattle.aml_slice.specs.Finishing.{goes_on, after_slice, finished_in, finished}

abbrev pub named : Tid → Rest → Rest
named t c = record c { tid = t }

abbrev moved_as : Tid → Move → Move
moved_as t (To d s) = To (named t d) s
moved_as t (Out r s) = Out r s

abbrev on_as : Tid → Next Rest → Next Rest
on_as t (Go b d) = Go b (named t d)
on_as t (Ended r) = Ended r

abbrev ended_as : Tid → SliceEnd → SliceEnd
ended_as t x = record { state = x.state; next = on_as t x.next }

returned_as : (t : Tid) (c : Rest) (fs : List Frame) (v : ℤ) (s : State) (n : ℕ) → returned (named t c) fs v s n ≡ moved_as t (returned c fs v s n)
returned_as t c [] v s n = refl
returned_as t c (f ∷ fs) v s n = refl

admitted_as : (t : Tid) (c : Rest) (g : Standing) (a m : ℕ) (arguments : List ℤ) (s : State) (o : Result Progress ℕ) → unless_refused s o (λ q. To (entered (named t c) g a m arguments q) s) ≡ moved_as t (unless_refused s o (λ q. To (entered c g a m arguments q) s))
admitted_as t c g a m arguments s (Ok q) = refl
admitted_as t c g a m arguments s (Err code) = refl

deep_as : (t : Tid) (s : State) (b : Bool) (x y : Move) → x ≡ moved_as t y → (if b then x else Out (result.Fail too_deep) s) ≡ moved_as t (if b then y else Out (result.Fail too_deep) s)
deep_as t s true x y h = h
deep_as t s false x y h = refl

called_as : (t : Tid) (c : Rest) (m : ℕ) (arguments : List ℤ) (g : Standing) (s : State) (n : ℕ) (o : Result ℕ ℕ)
    → unless_refused s o (λ a. if nat_lt (length c.waiting) most_waiting then unless_refused s (admitted a (record (progress_in c []) { statements = n })) (λ q. To (entered (named t c) g a m arguments q) s) else Out (result.Fail too_deep) s)
    ≡ moved_as t (unless_refused s o (λ a. if nat_lt (length c.waiting) most_waiting then unless_refused s (admitted a (record (progress_in c []) { statements = n })) (λ q. To (entered c g a m arguments q) s) else Out (result.Fail too_deep) s))
called_as t c m arguments g s n (Ok a) =
    deep_as t s (nat_lt (length c.waiting) most_waiting) (unless_refused s (admitted a (record (progress_in c []) { statements = n })) (λ q. To (entered (named t c) g a m arguments q) s)) (unless_refused s (admitted a (record (progress_in c []) { statements = n })) (λ q. To (entered c g a m arguments q) s))
    (admitted_as t c g a m arguments s (admitted a (record (progress_in c []) { statements = n })))
called_as t c m arguments g s n (Err code) = refl

moved_by_as : (t : Tid) (count : ℕ) (c : Rest) (x : Pause) → moved_by count (named t c) x ≡ moved_as t (moved_by count c x)
moved_by_as t count c (Through vs s n) = returned_as t c c.waiting (pos 0) s n
moved_by_as t count c (Returned v s n) = returned_as t c c.waiting v s n
moved_by_as t count c (Calling target m arguments g s n) = called_as t c m arguments g s n (actor_of count target)
moved_by_as t count c (Failed code s n) = refl

test_as : (t : Tid) (b : Bool) (x y z w : SliceEnd) → x ≡ ended_as t y → z ≡ ended_as t w → (if b then x else z) ≡ ended_as t (if b then y else w)
test_as t true x y z w h k = h
test_as t false x y z w h k = k

after_as : (t : Tid) (own : ℕ) (more : Rest → State → SliceEnd) → ((d : Rest) (s : State) → more (named t d) s ≡ ended_as t (more d s)) → (x : Move) → after_move own more (moved_as t x) ≡ ended_as t (after_move own more x)
after_as t own more h (To d s) = test_as t (d.top.actor == own) (more (named t d) s) (more d s) (record { state = s; next = Go (actor_id d.top.actor) (named t d) }) (record { state = s; next = Go (actor_id d.top.actor) d }) (h d s) refl
after_as t own more h (Out r s) = refl

ended_in_as : (t : Tid) (f : ℕ) (p : List CheckedMethod) (count own : ℕ) (c : Rest) (s : State) → slice_end_in f p count own (named t c) s ≡ ended_as t (slice_end_in f p count own c s)
ended_in_as t zero p count own c s = refl
ended_in_as t (suc f) p count own c s =
    ap (after_move own (slice_end_in f p count own)) (moved_by_as t count c (method_pause c.top.actor (method_at p c.top.method).body c.top.standing s c.statements)) ∙ after_as t own (slice_end_in f p count own) (λ d u. ended_in_as t f p count own d u) (move p count c s)

on_named : (t : Tid) (more : Rest → List State → Alone) (w : List State) → ((d : Rest) (v : List State) → more (named t d) v ≡ more d v) → (x : Next Rest) → goes_on more w (on_as t x) ≡ goes_on more w x
on_named t more w h (Go b d) = h d w
on_named t more w h (Ended r) = refl

finished_in_as : (t : Tid) (f : ℕ) (p : List CheckedMethod) (count : ℕ) (c : Rest) (w : List State) → finished_in f p count (named t c) w ≡ finished_in f p count c w
finished_in_as t zero p count c w = refl
finished_in_as t (suc f) p count c w =
    let s = state_at w c.top.actor in
    let x = slice_end p count c (state_at w c.top.actor) in
    ap (after_slice (finished_in f p count) c w) (ended_in_as t (moves_left c + 1) p count c.top.actor c s)
    ∙ on_named t (finished_in f p count) (set w c.top.actor x.state) (λ d v. finished_in_as t f p count d v) x.next

pub only_named : (t : Tid) (p : List CheckedMethod) (count : ℕ) (c : Rest) (w : List State) → finished p count (named t c) w ≡ finished p count c w
only_named t p count c w = finished_in_as t (moves_left c + 1) p count c w
