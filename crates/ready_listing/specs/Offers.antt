-- The events that may be taken with the parts at hand.
use Rattle.std.specs.Prelude.{List, ◌↔◌, Contains}
use Rattle.aml_slice.specs.Controls.{Rest}
use Rattle.snap_hand.specs.core_rows.OnRuns.{HasRun}
use Rattle.protocol.specs.Conditions.{IsAllowed}
use Rattle.protocol.specs.Events.{Event}
use Rattle.protocol.specs.Fixed.{Fixed}
use Rattle.protocol.specs.Parts.{Machine}
use Rattle.protocol.specs.Schedule.{AscendByRank}
use Rattle.snap_hand.specs.Hands.{Parts, Fits, HasFootprint}

-- In each state that the hand fits these are the allowed events whose footprint is at hand, in order.
pub record AreOffers (w : Fixed Rest) (h : Parts) (es : List Event) : Type 0 where
  pub all : (s : Machine Rest) → HasRun w s → Fits h s → (e : Event) → Contains es e ↔ (IsAllowed w e s × HasFootprint w e h)
  pub ascends : AscendByRank es
