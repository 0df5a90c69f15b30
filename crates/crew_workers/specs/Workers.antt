-- A worker before its first round, between two rounds, and behind its last one.
use Rattle.std.specs.Prelude.{◌≡◌, ℕ, false, None, List}
use Rattle.crew_grip.specs.Grips.{CrewSeat, CrewTurns, GripState, IsAtWork, IsCrew}
use Rattle.protocol.specs.Words.{is_among}
use Rattle.turn_table.specs.Places.{at}
use Rattle.turn_table.specs.Words.{HoldsNothing, knows, splits_of}

-- Its pass is one of the table, holds nothing and cannot be split.
pub record IsBetweenRounds (turns : CrewTurns) (seat : CrewSeat) (g : GripState) : Type 0 where
  pub work : IsAtWork turns seat g
  pub idle : HoldsNothing seat
  pub whole : splits_of seat ≡ 0

-- outside of these parts nothing is held
abbrev pub IsWithin : List ℕ → CrewSeat → Type 0
IsWithin parts seat = (i : ℕ) → is_among i parts ≡ false → at (knows seat).held i ≡ None

-- Its pass is one of the table, holds nothing outside of these parts, and cannot be split.
pub record IsInRounds (turns : CrewTurns) (parts : List ℕ) (seat : CrewSeat) (g : GripState) : Type 0 where
  pub work : IsAtWork turns seat g
  pub within : IsWithin parts seat
  pub whole : splits_of seat ≡ 0

-- The table is a crew's, and the worker is one of it.
abbrev pub IsOfCrew : CrewTurns → CrewSeat → GripState → Type 0
IsOfCrew turns seat g = IsCrew turns × IsBetweenRounds turns seat g
