use Rattle.std.proofs.lemmas.List.{get_or_default}
use Rattle.ready_listing.proofs.Picking.{room_for_all, room_for_next, room_for_rest}
use Rattle.ready_renewal.proofs.KeptEvents.{all_put, one_put, with_nothing}
use Rattle.ready_renewal.proofs.revising.put_all.Goals as goal

pub loop-e-init : goal.loop-e-init
loop-e-init c = record { room = room_for_all c.args.list.now c.args.news.now c.requires; more = with_nothing c.args.list.now.events }

pub put-requires : goal.put-requires
put-requires c =
    room_for_next c.loop-e.list c.args.news.now c.loop-e.e-index _ c.loop-e-test.true (get_or_default c.args.news.now c.loop-e.e-index _ _ c.loop-e-test.true) c.loop-e.invariant.room

pub loop-e-preserved : goal.loop-e-preserved
loop-e-preserved c = record {
  room = room_for_rest c.loop-e.list c.put.new.self c.args.news.now c.loop-e.e-index c.put.ensures.room c.loop-e.invariant.room;
  more =
      one_put c.args.news.now c.loop-e.e-index _ c.args.list.now.events c.loop-e.list.events c.put.new.self.events
      c.loop-e-test.true (get_or_default c.args.news.now c.loop-e.e-index _ _ c.loop-e-test.true) c.one_is_put.ensures c.events_stay_in_order.ensures.put
      c.loop-e.invariant.more c.put.ensures.events;
}

pub returns : goal.returns
returns c = all_put c.args.news.now c.loop-e.e-index c.args.list.now.events c.loop-e.list.events c.loop-e-test.false c.loop-e.invariant.more
