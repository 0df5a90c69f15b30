-- A slice of the code, move by move, is the function's.
use Rattle.std.proofs.Common.{◌≡◌, ◌≢◌, ℕ, zero, suc, ◌+◌, ◌≤◌, Bool, if◌then◌else◌, List, refl, ap, ◌∙◌, subst, arith}
use Rattle.std.proofs.lemmas.Bool.{eq-eqb, ne_eqb}
use Rattle.snap_base.specs.declared.transactions.State.{State}
use Rattle.snap_base.specs.declared.transactions.TxResult.{TxResult}
use Rattle.aml_tree.specs.Tree.{CheckedMethod}
use Rattle.aml_check.specs.Closed.{IsClosedProgram}
use Rattle.snap_base.specs.declared.next.Next.TheVariants.{Go, Ended}
use Rattle.aml_slice.specs.Controls.{Rest, IsRest, moves_left}
use Rattle.aml_slice.specs.Slicing.{Move, To, Out, move, actor_id, after_move, slice_end_in, slice_end}
use Rattle.aml_slice.proofs.Moving.{PauseLaws, Follows}
use Rattle.aml_slice.proofs.SlicedMoves.{Well, one_move}

-- what a control keeps in a move after which its transaction goes on
pub moves_on : PauseLaws → (p : List CheckedMethod) (count : ℕ) (c d : Rest) (t u : State) → IsClosedProgram p → IsRest p count c → move p count c t ≡ To d u → Follows p count c d
moves_on laws p count c d t u closed is e = (subst (Well p count c t) e (one_move laws p count c t closed is)).0

-- the whole slice is what so many moves from here make
abbrev pub SlicesFrom : List CheckedMethod → ℕ → Rest → State → Rest → State → Type 0
SlicesFrom p count first s c t = (f : ℕ) × (moves_left c + 1 ≤ f) × (slice_end p count first s ≡ slice_end_in f p count first.top.actor c t)

pub slice_begins : (p : List CheckedMethod) (count : ℕ) (first : Rest) (s : State) → SlicesFrom p count first s first s
slice_begins p count first s = (moves_left first + 1, omega arith, refl)

one_in : (f : ℕ) (p : List CheckedMethod) (count own : ℕ) (c : Rest) (t : State) (x : Move) → moves_left c + 1 ≤ f → move p count c t ≡ x → (g : ℕ) × (f ≡ g + 1) × (slice_end_in f p count own c t ≡ after_move own (slice_end_in g p count own) x)
one_in zero p count own c t x enough is = absurd (omega (arith, enough))
one_in (suc f) p count own c t x enough is = (f, omega arith, ap (after_move own (slice_end_in f p count own)) is)

pub slice_stays : (p : List CheckedMethod) (count : ℕ) (first : Rest) (s : State) (c d : Rest) (t u : State) → SlicesFrom p count first s c t → move p count c t ≡ To d u → d.top.actor ≡ first.top.actor → moves_left d + 1 ≤ moves_left c → SlicesFrom p count first s d u
slice_stays p count first s c d t u l is stays fewer =
    let o = one_in l.0 p count first.top.actor c t (To d u) l.1 is in (
      o.0,
      omega (arith, l.1, o.1, fewer),
      l.2 ∙ o.2 ∙ ap (λ (b : Bool). if b then slice_end_in o.0 p count first.top.actor d u else record { state = u; next = Go (actor_id d.top.actor) d }) (eq-eqb d.top.actor first.top.actor stays),
    )

pub slice_goes : (p : List CheckedMethod) (count : ℕ) (first : Rest) (s : State) (c d : Rest) (t u : State) → SlicesFrom p count first s c t → move p count c t ≡ To d u → d.top.actor ≢ first.top.actor → slice_end p count first s ≡ record { state = u; next = Go (actor_id d.top.actor) d }
slice_goes p count first s c d t u l is other =
    let o = one_in l.0 p count first.top.actor c t (To d u) l.1 is in
    l.2 ∙ o.2 ∙ ap (λ (b : Bool). if b then slice_end_in o.0 p count first.top.actor d u else record { state = u; next = Go (actor_id d.top.actor) d }) (ne_eqb d.top.actor first.top.actor other)

pub slice_ends : (p : List CheckedMethod) (count : ℕ) (first : Rest) (s : State) (c : Rest) (t u : State) (r : TxResult) → SlicesFrom p count first s c t → move p count c t ≡ Out r u → slice_end p count first s ≡ record { state = u; next = Ended r }
slice_ends p count first s c t u r l is = l.2 ∙ (one_in l.0 p count first.top.actor c t (Out r u) l.1 is).2
