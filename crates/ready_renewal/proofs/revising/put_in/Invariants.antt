use Rattle.std.proofs.Common.{map, take}
use Rattle.core_events.specs.Meant.{event_meant}
use Rattle.snap_hand.specs.Tables.{fixed_of}
use Rattle.ready_listing.proofs.Picking.{HasRoom}
use Rattle.ready_renewal.specs.Asked.{IsWith}
use Rattle.ready_renewal.proofs.revising.put_in.Given as goal

abbrev pub invariant-loop-e : goal.invariant-loop-e
invariant-loop-e l = record {
  room : HasRoom l.list l.news l.e-index;
  more : IsWith (fixed_of l.tables) l.hand (map event_meant (take l.e-index l.news)) l.fn.list.events l.list.events;
}
