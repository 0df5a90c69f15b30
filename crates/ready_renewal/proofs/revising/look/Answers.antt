use Rattle.core_events.specs.Meant.{event_meant}
use Rattle.snap_hand.specs.Tables.{fixed_of}
use Rattle.ready_renewal.proofs.KeptEvents.{looked_none, looked_put}
use Rattle.ready_renewal.proofs.revising.look.Goals as goal

pub returns-then-is_allowed-clause-looked : goal.returns-then-is_allowed-clause-looked
returns-then-is_allowed-clause-looked c =
    looked_put (fixed_of c.args.tables.now) c.args.hand.now (event_meant c.args.e) c.args.list.now.events c.put.new.self.events
    c.put.ensures.events c.one_is_put.ensures c.events_stay_in_order.ensures.put (c.is_allowed.ensures.allowed c.if-is_allowed.true)

pub returns-else-is_allowed-clause-looked : goal.returns-else-is_allowed-clause-looked
returns-else-is_allowed-clause-looked c = looked_none (fixed_of c.args.tables.now) c.args.hand.now (event_meant c.args.e) c.args.list.now.events (c.is_allowed.ensures.refused c.if-is_allowed.false)
