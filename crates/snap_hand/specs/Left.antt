-- What is counted of parts at hand.
use Rattle.std.specs.Prelude.{◌≡◌, ℕ, Option, Some, None, length}
use Rattle.aml_slice.specs.Controls.{Rest}
use Rattle.protocol.specs.Parts.{Machine}
use Rattle.snap_hand.specs.Hands.{Parts, Fits}

-- of a part that is not there nothing is counted
abbrev pub of_part : {X : Type 0} → (X → ℕ) → Option X → ℕ
of_part f None = 0
of_part f (Some x) = f x

-- the hand fits the state, and has a place for each log and each cell of it
pub record FitsAll (h : Parts) (s : Machine Rest) : Type 0 where
  pub fits : Fits h s
  pub logs : length s.logs ≡ length h.logs
  pub cells : length s.cells ≡ length h.cells
