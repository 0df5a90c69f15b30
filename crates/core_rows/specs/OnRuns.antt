-- The states that runs come to.
use Rattle.std.specs.Prelude.{◌≡◌, List}
use Rattle.snap_base.specs.declared.transactions.State.{State}
use Rattle.protocol.specs.Fixed.{Fixed, IsText}
use Rattle.protocol.specs.Facts.{Alone}
use Rattle.protocol.specs.Rests.{HasFacts}
use Rattle.protocol.specs.Parts.{Machine}
use Rattle.protocol.specs.Events.{Event}
use Rattle.protocol.specs.Runs.{IsRun, reached}

-- some run of an accepted text, over code with the facts, has come to this state
pub record HasRun {C : Type 0} (w : Fixed C) (s : Machine C) : Type 0 where
  pub finish : C → List State → Alone
  pub facts : HasFacts w finish
  pub text : IsText w.text
  pub events : List Event
  pub run : IsRun w events
  pub is_reached : s ≡ reached w events
