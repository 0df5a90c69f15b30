use Rattle.std.proofs.lemmas.List.{get_or_default}
use Rattle.snap_hand.specs.Tables.{fixed_of}
use Rattle.ready_listing.proofs.Picking.{chosen_more, room_for_next, room_for_rest}
use Rattle.ready_listing.proofs.choosing.chosen.Goals as goal

pub look-requires-clause-room : goal.look-requires-clause-room
look-requires-clause-room c =
    room_for_next c.loop-e.list c.args.events.now c.loop-e.e-index _ c.loop-e-test.true (get_or_default c.args.events.now c.loop-e.e-index _ _ c.loop-e-test.true) c.loop-e.invariant.room

pub loop-e-preserved : goal.loop-e-preserved
loop-e-preserved c = record {
  room = room_for_rest c.loop-e.list c.look.new.list c.args.events.now c.loop-e.e-index c.look.ensures.room c.loop-e.invariant.room;
  chosen =
      chosen_more (fixed_of c.args.tables.now) c.args.hand.now c.args.events.now c.loop-e.e-index _ c.loop-e.list.events c.look.new.list.events
      c.loop-e-test.true (get_or_default c.args.events.now c.loop-e.e-index _ _ c.loop-e-test.true) c.loop-e.invariant.chosen c.look.ensures.looked;
}
