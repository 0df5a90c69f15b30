use Rattle.std.proofs.Common.{map, take}
use Rattle.core_events.specs.Meant.{event_meant}
use Rattle.snap_hand.specs.Tables.{fixed_of}
use Rattle.ready_renewal.specs.Asked.{AreAsked}
use Rattle.ready_renewal.proofs.refused.ask_these.Given as goal

abbrev pub invariant-loop-f : goal.invariant-loop-f
invariant-loop-f l = AreAsked (fixed_of l.tables) l.hand (event_meant l.reach.event) (map event_meant (take l.f-index l.events)) (map event_meant l.fn.gone.items) (map event_meant l.gone.items)
