use Rattle.std.proofs.Common.{map}
use Rattle.std.proofs.lemmas.List.{get_or_default}
use Rattle.core_events.specs.Meant.{event_meant}
use Rattle.snap_hand.specs.Tables.{fixed_of}
use Rattle.ready_renewal.proofs.KeptEvents.{all_asked, none_asked, one_asked}
use Rattle.ready_renewal.proofs.refused.ask_these.Goals as goal

pub loop-f-init : goal.loop-f-init
loop-f-init c = none_asked (fixed_of c.args.tables.now) c.args.hand.now (event_meant c.args.reach.now.event) (map event_meant c.args.gone.now.items)

pub loop-f-preserved : goal.loop-f-preserved
loop-f-preserved c =
    one_asked (fixed_of c.args.tables.now) c.args.hand.now (event_meant c.args.reach.now.event) c.args.events.now c.loop-f.f-index _
    (map event_meant c.args.gone.now.items) (map event_meant c.loop-f.gone.items) (map event_meant c.ask_again.new.gone.items)
    c.loop-f-test.true (get_or_default c.args.events.now c.loop-f.f-index _ _ c.loop-f-test.true) c.loop-f.invariant c.in_ok-ask_again.ensures

pub returns : goal.returns
returns c =
    all_asked (fixed_of c.args.tables.now) c.args.hand.now (event_meant c.args.reach.now.event) c.args.events.now c.loop-f.f-index
    (map event_meant c.args.gone.now.items) (map event_meant c.loop-f.gone.items) c.loop-f-test.false c.loop-f.invariant
