use Rattle.std.proofs.lemmas.List.{get_or_default}
use Rattle.snap_hand.specs.Tables.{fixed_of}
use Rattle.ready_listing.proofs.Picking.{room_for_all, room_for_next, room_for_rest}
use Rattle.ready_renewal.proofs.KeptEvents.{all_in, one_in, with_none}
use Rattle.ready_renewal.proofs.revising.put_in.Goals as goal

pub loop-e-init : goal.loop-e-init
loop-e-init c = record { room = room_for_all c.args.list.now c.args.news.now c.requires.room; more = with_none (fixed_of c.args.tables.now) c.args.hand.now c.args.list.now.events }

pub look-requires-clause-room : goal.look-requires-clause-room
look-requires-clause-room c =
    room_for_next c.loop-e.list c.args.news.now c.loop-e.e-index _ c.loop-e-test.true (get_or_default c.args.news.now c.loop-e.e-index _ _ c.loop-e-test.true) c.loop-e.invariant.room

pub loop-e-preserved : goal.loop-e-preserved
loop-e-preserved c = record {
  room = room_for_rest c.loop-e.list c.look.new.list c.args.news.now c.loop-e.e-index c.look.ensures.room c.loop-e.invariant.room;
  more =
      one_in (fixed_of c.args.tables.now) c.args.hand.now c.args.news.now c.loop-e.e-index _ c.args.list.now.events c.loop-e.list.events c.look.new.list.events
      c.loop-e-test.true (get_or_default c.args.news.now c.loop-e.e-index _ _ c.loop-e-test.true) c.loop-e.invariant.more c.look.ensures.looked;
}

pub returns : goal.returns
returns c = all_in (fixed_of c.args.tables.now) c.args.hand.now c.args.news.now c.loop-e.e-index c.args.list.now.events c.loop-e.list.events c.loop-e-test.false c.loop-e.invariant.more
