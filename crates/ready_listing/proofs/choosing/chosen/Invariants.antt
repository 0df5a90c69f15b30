use Rattle.std.proofs.Common.{map, take}
use Rattle.core_events.specs.Meant.{event_meant}
use Rattle.snap_hand.specs.Tables.{fixed_of}
use Rattle.ready_listing.specs.Chosen.{AreChosen}
use Rattle.ready_listing.proofs.Picking.{HasRoom}
use Rattle.ready_listing.proofs.choosing.chosen.Given as goal

abbrev pub invariant-loop-e : goal.invariant-loop-e
invariant-loop-e l = record {
  room : HasRoom l.list l.events l.e-index;
  chosen : AreChosen (fixed_of l.tables) l.hand (map event_meant (take l.e-index l.events)) l.list.events;
}
