use Rattle.std.proofs.Common.{map, refl}
use Rattle.core_events.specs.Meant.{event_meant}
use Rattle.snap_hand.specs.Tables.{fixed_of}
use Rattle.ready_renewal.proofs.KeptEvents.{all_kinds, no_kinds, one_kind}
use Rattle.ready_renewal.proofs.refused.ask_kinds.Goals as goal

pub loop-kind-init : goal.loop-kind-init
loop-kind-init c = no_kinds (fixed_of c.args.tables.now) c.args.hand.now (event_meant c.args.reach.now.event) c.args.number c.args.list.now.events (map event_meant c.args.gone.now.items)

pub loop-kind-preserved : goal.loop-kind-preserved
loop-kind-preserved c =
    one_kind (fixed_of c.args.tables.now) c.args.hand.now (event_meant c.args.reach.now.event) c.args.kinds.now c.loop-kind.kind-index _ 0 c.args.number c.args.list.now.events
    (map event_meant c.args.gone.now.items) (map event_meant c.loop-kind.gone.items) (map event_meant c.ask_kind.new.gone.items)
    c.loop-kind-test.true refl c.loop-kind.invariant c.in_ok-ask_kind.ensures

pub returns : goal.returns
returns c =
    all_kinds (fixed_of c.args.tables.now) c.args.hand.now (event_meant c.args.reach.now.event) c.args.kinds.now c.loop-kind.kind-index c.args.number c.args.list.now.events
    (map event_meant c.args.gone.now.items) (map event_meant c.loop-kind.gone.items) c.loop-kind-test.false c.loop-kind.invariant
