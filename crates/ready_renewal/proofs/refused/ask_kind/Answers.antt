use Rattle.std.proofs.Common.{map}
use Rattle.core_events.specs.Meant.{event_meant}
use Rattle.snap_hand.specs.Tables.{fixed_of}
use Rattle.ready_renewal.specs.Asked.{of_kind}
use Rattle.ready_renewal.proofs.KeptEvents.{both_asked}
use Rattle.ready_renewal.proofs.refused.ask_kind.Goals as goal

pub returns : goal.returns
returns c =
    both_asked (fixed_of c.args.tables.now) c.args.hand.now (event_meant c.args.reach.now.event) c.pieces.result.0.now c.pieces.result.1.now (of_kind c.args.kind c.args.number c.args.list.now.events)
    (map event_meant c.args.gone.now.items) (map event_meant c.ask_each.new.gone.items) (map event_meant c.ask_each-2.new.gone.items) c.pieces.ensures c.in_ok-ask_each.ensures c.in_ok-ask_each-2.ensures
