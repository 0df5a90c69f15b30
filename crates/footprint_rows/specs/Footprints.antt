-- Hands that have the parts of one state between them, and what an event makes of one of them.
use Rattle.std.specs.Prelude.{◌⊎◌}
use Rattle.aml_slice.specs.Controls.{Rest}
use Rattle.core_rows.specs.OnRuns.{HasRun}
use Rattle.protocol.specs.Conditions.{IsAllowed}
use Rattle.protocol.specs.Effects.{after}
use Rattle.protocol.specs.Events.{Event}
use Rattle.protocol.specs.Fixed.{Fixed}
use Rattle.protocol.specs.Parts.{Machine}
use Rattle.snap_hand.specs.Hands.{Parts, Fits, IsHandOf}
use Rattle.snap_hand.specs.Steps.{OnSomeRun}
use Rattle.snap_hand.specs.Tables.{AreTables, fixed_of}
use Rattle.snap_hand.specs.declared.tables.Tables.{Tables}

-- both fit one state that some run has come to
pub record AreBoth (w : Fixed Rest) (g h : Parts) : Type 0 where
  pub state : Machine Rest
  pub run : HasRun w state
  pub first : Fits g state
  pub second : Fits h state

-- Of an accepted text, parts that show a state that some run has come to.
pub record IsFootprintCore (t : Tables) (h : Parts) : Type 0 where
  pub tables : AreTables t
  pub places : IsHandOf (fixed_of t) h
  pub some : OnSomeRun (fixed_of t) h

-- Each state that the hand fitted it fits as before; or the event is allowed there, and it fits the state after it.
abbrev pub StaysOrGoesOn : Fixed Rest → Event → Parts → Parts → Type 0
StaysOrGoesOn w e old new = (s : Machine Rest) → HasRun w s → Fits old s → Fits new s ⊎ (IsAllowed w e s × Fits new (after w e s))
