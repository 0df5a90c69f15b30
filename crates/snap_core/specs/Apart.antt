-- A core taken apart.
use Rattle.std.specs.Prelude.{◌≡◌, Some, List, map}
use Rattle.aml_slice.specs.Controls.{Rest}
use Rattle.snap_hand.specs.core_rows.OnRuns.{HasRun}
use Rattle.protocol.specs.Fixed.{Fixed}
use Rattle.protocol.specs.Parts.{Machine}
use Rattle.snap_core.specs.Cores.{CoreState}
use Rattle.snap_hand.specs.Hands.{IsHandOf}
use Rattle.snap_hand.specs.Shown.{Shown, AreAllParts, places}
use Rattle.snap_hand.specs.Tables.{fixed_of}

-- The core has these parts, in the order of their numbers, and no other one.
pub record AreItsParts (c : CoreState) (ps : List Shown) : Type 0 where
  pub all : map Some ps ≡ places c.hand
  pub hand : IsHandOf (fixed_of c.tables) c.hand

-- Some run of the text has come to a state of which these are all parts.
pub record ShowSomeRun (w : Fixed Rest) (ps : List Shown) : Type 0 where
  pub state : Machine Rest
  pub run : HasRun w state
  pub parts : AreAllParts w state ps
