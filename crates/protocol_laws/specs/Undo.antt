-- What an undo gives: the state before the first run of what is undone.
use Rattle.std.specs.Prelude.{◌≡◌, ℕ, true, if◌then◌else◌, List, [], ◌∷◌, ◌++◌}
use Rattle.snap_base.specs.declared.transactions.State.{State}
use Rattle.protocol.specs.Fixed.{Fixed}
use Rattle.protocol.specs.Facts.{Alone, state_in}
use Rattle.protocol.specs.Parts.{Cascade, OfAct, Machine}
use Rattle.protocol.specs.Words.{act_of}
use Rattle.protocol.specs.Events.{Rollback, Finish}
use Rattle.protocol.specs.Conditions.{IsAllowed}
use Rattle.protocol.specs.Effects.{after, cell_at}
use Rattle.protocol.specs.OnCell.{is_cut, is_undone_act}
use Rattle.protocol.specs.History.{Slice, Ran, Stands, Gone, History, long_staying, without_standing, slices_of}
use Rattle.protocol_laws.specs.Tracks.{slices_in}

-- from the first aborted batch on that stands there
abbrev pub long_going : List Cascade → List Ran → List Ran
long_going cascades [] = []
long_going cascades (Stands y c ss ∷ rs) = if is_cut cascades y then Stands y c ss ∷ rs else long_going cascades rs
long_going cascades (Gone y ss ∷ rs) = long_going cascades rs

-- what the first of these slices found; where none ran, the state as it is
abbrev pub first_found : State → List Slice → State
first_found s [] = s
first_found s (x ∷ xs) = x.found

-- the state that these slices lead to from this one: what the last of them left
abbrev pub end_state : State → List Slice → State
end_state s [] = s
end_state s (x ∷ xs) = end_state x.left xs

-- All slices of an actor are those that stay, and then those that are undone. The state after the undo is the one that the
-- first of these found, and so the one that the last of those left.
pub record IsUndone (opening before after : State) (all stay gone : List Slice) : Type 0 where
  pub splits : all ≡ stay ++ gone
  pub found : after ≡ first_found before gone
  pub left : after ≡ end_state opening stay

-- at a rollback, and where an ACT leaves that is doomed or failed
pub record UndoGives {C : Type 0} (w : Fixed C) (finish : C → List State → Alone) (s : Machine C) (h : History) : Type 0 where
  pub rollback : (a : ℕ) → IsAllowed w (Rollback a) s
      → IsUndone (state_in w.text.opening.states a) (cell_at s a).state (cell_at (after w (Rollback a) s) a).state (slices_in (h.long a)) (slices_in (long_staying s.book.cascades (h.long a))) (slices_in (long_going s.book.cascades (h.long a)))
  pub finish_act : (t a : ℕ) → IsAllowed w (Finish t a) s → is_undone_act (act_of t s.book.acts) ≡ true
      → IsUndone (state_in w.text.opening.states a) (cell_at s a).state (cell_at (after w (Finish t a) s) a).state (slices_in (h.long a)) (slices_in (without_standing (OfAct t) (h.long a))) (slices_of (OfAct t) (h.long a))
