use Rattle.std.proofs.Common.{map, take}
use Rattle.core_events.specs.Meant.{event_meant}
use Rattle.snap_hand.specs.Tables.{fixed_of}
use Rattle.ready_renewal.specs.Asked.{AreAsked, of_kinds}
use Rattle.ready_renewal.proofs.refused.ask_kinds.Given as goal

abbrev pub invariant-loop-kind : goal.invariant-loop-kind
invariant-loop-kind l = AreAsked (fixed_of l.tables) l.hand (event_meant l.reach.event) (of_kinds (take l.kind-index l.kinds) l.number l.list.events) (map event_meant l.fn.gone.items) (map event_meant l.gone.items)
