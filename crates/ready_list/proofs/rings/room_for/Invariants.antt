use Rattle.std.proofs.Common.{◌≤◌, length, map, take, Contains}
use Rattle.core_events.specs.Meant.{event_meant}
use Rattle.protocol.specs.Events.{Event}
use Rattle.ready_list.specs.Order.{kind_of}
use Rattle.ready_list.specs.Rings.{AreRoomier, spare_at}
use Rattle.ready_list.proofs.rings.room_for.Given as goal

abbrev pub invariant-loop-e : goal.invariant-loop-e
invariant-loop-e l = record {
  kept : AreRoomier l.fn.kinds.items l.kinds.items;
  room : (f : Event) → Contains (map event_meant (take l.e-index l.news)) f → length l.news ≤ spare_at l.kinds.items (kind_of f);
}
