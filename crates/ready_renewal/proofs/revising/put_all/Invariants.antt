use Rattle.std.proofs.Common.{map, take}
use Rattle.core_events.specs.Meant.{event_meant}
use Rattle.ready_listing.proofs.Picking.{HasRoom}
use Rattle.ready_renewal.specs.Asked.{IsWithAll}
use Rattle.ready_renewal.proofs.revising.put_all.Given as goal

abbrev pub invariant-loop-e : goal.invariant-loop-e
invariant-loop-e l = record {
  room : HasRoom l.list l.news l.e-index;
  more : IsWithAll (map event_meant (take l.e-index l.news)) l.fn.list.events l.list.events;
}
