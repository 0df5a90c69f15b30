use Rattle.std.proofs.Common.{map, ap}
use Rattle.core_events.specs.Meant.{event_meant}
use Rattle.snap_hand.specs.Tables.{fixed_of}
use Rattle.ready_renewal.proofs.KeptEvents.{all_reached}
use Rattle.ready_renewal.proofs.refused.refused.Goals as goal

pub returns : goal.returns
returns c =
    let reach = c.of-reach.result in
    all_reached (fixed_of c.args.tables.now) c.args.hand.now reach.event c.args.e c.args.list.now.events
    (map event_meant c.new-gone.result.items) (map event_meant c.ask_kinds.new.gone.items) (map event_meant c.ask_kinds-2.new.gone.items) (map event_meant c.ask_kinds-3.new.gone.items)
    reach.wholly.now reach.on_actor.now reach.numbered.now reach.actor reach.number c.of-reach.ensures reach.reached (ap (map event_meant) c.new-gone.ensures.items)
    c.in_ok-ask_kinds.ensures c.in_ok-ask_kinds-2.ensures c.in_ok-ask_kinds-3.ensures
