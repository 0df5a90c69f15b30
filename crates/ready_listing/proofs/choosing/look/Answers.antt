use Rattle.core_events.specs.Meant.{event_meant}
use Rattle.snap_hand.specs.Tables.{fixed_of}
use Rattle.ready_listing.proofs.Picking.{looked_put}
use Rattle.ready_listing.proofs.choosing.look.Goals as goal

pub returns-then-may_take-clause-looked : goal.returns-then-may_take-clause-looked
returns-then-may_take-clause-looked c =
    looked_put (fixed_of c.args.tables.now) c.args.hand.now (event_meant c.args.e) c.args.list.now.events c.put.new.self.events
    c.put.ensures.events c.one_is_put.ensures c.events_stay_in_order.ensures.put (c.may_take.ensures.offered c.if-may_take.true)
