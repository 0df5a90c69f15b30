-- What a worker holds of the shared parts, and that it is what its pass holds.
use Rattle.std.specs.Prelude.{◌≡◌, ℕ, ◌+◌, Option, None, Some, option_map, List, length}
use Rattle.aml_slice.specs.Controls.{Rest}
use Rattle.crew_parts.specs.atomic_table.declared.shared.Seat.{Seat}
use Rattle.crew_parts.specs.Acts.{MayDo, touched}
use Rattle.crew_parts.specs.Crews.{AreFirstShares, Stands}
use Rattle.crew_parts.specs.Shares.{BesideState, ShareState, share_of}
use Rattle.crew_parts.specs.declared.acts.Act.{Act}
use Rattle.protocol.specs.Fixed.{Fixed}
use Rattle.snap_hand.specs.Hands.{Parts, IsHandOf}
use Rattle.snap_hand.specs.Shown.{Shown, part_at}
use Rattle.snap_hand.specs.Tables.{AreTables, fixed_of}
use Rattle.snap_hand.specs.declared.tables.Tables.{Tables}
use Rattle.turn_table.specs.Places.{at}
use Rattle.turn_table.specs.Runs.{Fits}
use Rattle.turn_table.specs.Words.{tables_of, opening_of, IsOf, knows}
use Rattle.turn_table.specs.declared.turns.Turns.{Turns}
use Rattle.turn_table.specs.declared.views.View.{View}

pub record GripState : Type 0 where
  pub hand : Parts
  -- by the number of the part
  pub besides : List (Option BesideState)

abbrev pub joined : Option Shown → Option BesideState → Option ShareState
joined None b = None
joined (Some p) None = None
joined (Some p) (Some b) = Some (share_of p b)

-- what is held under a number
abbrev pub share_at : GripState → ℕ → Option ShareState
share_at g i = joined (part_at g.hand i) (at g.besides i)

abbrev pub part_in : Option ShareState → Option Shown
part_in o = option_map (λ x. x.part) o

abbrev pub beside_in : Option ShareState → Option BesideState
beside_in o = option_map (λ x. x.beside) o

-- how many parts there are
abbrev pub part_count : Fixed Rest → ℕ
part_count w = 4 + w.text.logs + length w.text.opening.states

-- It has the shares that are held, and no others, and places for all parts.
pub record IsGripOf (w : Fixed Rest) (held : List (Option ShareState)) (g : GripState) : Type 0 where
  pub places : IsHandOf w g.hand
  pub many : length g.besides ≡ part_count w
  pub parts : (i : ℕ) → part_at g.hand i ≡ part_in (at held i)
  pub besides : (i : ℕ) → at g.besides i ≡ beside_in (at held i)

abbrev pub CrewTurns : Type 0
CrewTurns = Turns ShareState Tables Act

abbrev pub CrewSeat : Type 0
CrewSeat = Seat (Option ShareState) (View ShareState Act)

-- the table is one of an accepted text, whose parts were those of a beginning
pub record IsCrew (turns : CrewTurns) : Type 0 where
  pub tables : AreTables (tables_of turns)
  pub begins : AreFirstShares (fixed_of (tables_of turns)) (opening_of turns)

-- The pass is one of the table, the grip has what the pass holds, and some run has come to that: acts in which what the pass recorded
-- stands at its numbers.
pub record IsAtWork (turns : CrewTurns) (seat : CrewSeat) (g : GripState) : Type 0 where
  pub own : IsOf turns seat
  pub grip : IsGripOf (fixed_of (tables_of turns)) (knows seat).held g
  pub stands : Stands (fixed_of (tables_of turns)) (opening_of turns) (knows seat).held
  pub fits : Fits (touched (tables_of turns)) (MayDo (tables_of turns)) (opening_of turns) (knows seat).held (knows seat).entries

-- It has what some pass of the table holds: some run has come to that.
pub record IsHeldNow (turns : CrewTurns) (g : GripState) : Type 0 where
  pub held : List (Option ShareState)
  pub grip : IsGripOf (fixed_of (tables_of turns)) held g
  pub stands : Stands (fixed_of (tables_of turns)) (opening_of turns) held
