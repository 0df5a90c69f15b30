use Rattle.std.proofs.Common.{◌≤◌, ◌<◌, List, map, length, refl, sym, subst, ap, ◌∙◌}
use Rattle.protocol.specs.Runs.{reached}
use Rattle.snap_core.specs.core_events.Meant.{event_meant}
use Rattle.snap_core.specs.core_events.declared.events.Event as code
use Rattle.snap_core.specs.Cores.{IsAt}
use Rattle.snap_core.specs.ready_renewal.Covering.{Covers}
use Rattle.snap_core.specs.snap_hand.Tables.{fixed_of}
use Rattle.snap_outside.proofs.AtFault.{surely}
use Rattle.solo_host.specs.Outside.{outside}
use Rattle.solo_host.specs.Together.{AreNext}
use Rattle.solo_host.specs.Turns.{IsBehindWords}
use Rattle.solo_host.proofs.Driving.{over_for_memory}
use Rattle.solo_host.proofs.Replying.{all_next, cut_over, leading_same, lines_long, whole_driving}
use Rattle.solo_host.proofs.together.take_together.Goals as goal

pub returns-in_default-clause-goes : goal.returns-in_default-clause-goes
returns-in_default-clause-goes g c start logs driving =
    over_for_memory (fixed_of c.args.core.now.tables) 0 (map event_meant c.args.kept.now.items) start (outside logs (g.O.Sink.taken c.args.out.now) (g.O.Sink.faults c.args.out.now)) driving

pub take_each-requires-clause-at : goal.take_each-requires-clause-at
take_each-requires-clause-at g c = subst (λ (ks : List code.Event). IsAt c.args.core.now (map event_meant ks)) (sym c.reserve.ensures.items) c.requires.at

pub take_each-requires-clause-next : goal.take_each-requires-clause-next
take_each-requires-clause-next g c =
    let w = fixed_of c.args.core.now.tables in
    let es = map event_meant c.args.kept.now.items in
    let leading = leading_same w (reached w es) c.args.list.now.events c.gather.new.replies.items c.as_slice.result.now _ c.as_slice.ensures.value (c.in-Ok.ensures es c.requires.at) in
    subst (λ (ks : List code.Event). AreNext w (reached w (map event_meant ks)) c.as_slice.result.now) (sym c.reserve.ensures.items)
    (all_next c.ranks_are_in_order.ensures.apart c.allowed_or_refused.ensures w (reached w es) c.as_slice.result.now c.args.list.now.events leading.first leading.made c.requires.covers)

pub take_each-requires-clause-covers : goal.take_each-requires-clause-covers
take_each-requires-clause-covers g c =
    let w = fixed_of c.args.core.now.tables in
    subst (λ (ks : List code.Event). Covers w (reached w (map event_meant ks)) c.args.list.now.events) (sym c.reserve.ensures.items) c.requires.covers

pub take_each-requires-clause-drawn : goal.take_each-requires-clause-drawn
take_each-requires-clause-drawn g c = subst (λ (ks : List code.Event). IsBehindWords 0 (length (map event_meant ks)) c.args.generator.now) (sym c.reserve.ensures.items) c.requires.drawn

pub returns-then-take_each-clause-goes : goal.returns-then-take_each-clause-goes
returns-then-take_each-clause-goes g c start logs driving =
    let w = fixed_of c.args.core.now.tables in
    let es = map event_meant c.args.kept.now.items in
    let leading = leading_same w (reached w es) c.args.list.now.events c.gather.new.replies.items c.as_slice.result.now _ c.as_slice.ensures.value (c.in-Ok.ensures es c.requires.at) in
    whole_driving w es (map event_meant c.reserve.new.self.items) (ap (map event_meant) c.reserve.ensures.items) c.as_slice.result.now c.as_bytes.result.now (c.as_bytes.ensures.value ∙ leading.text) c.write_front-taken.result start logs
    (g.O.Sink.taken c.args.out.now) (g.O.Sink.taken c.write_front-taken.new.out) (g.O.Sink.faults c.args.out.now) (g.O.Sink.faults c.write_front-taken.new.out) driving c.write_front-taken.ensures.taken c.write_front-taken.ensures.later
    (map event_meant c.take_each.new.kept.items) c.take_each.result c.if-take_each.true c.take_each.ensures.goes

pub returns-clause-goes : goal.returns-clause-goes
returns-clause-goes g c start logs driving =
    let w = fixed_of c.args.core.now.tables in
    let es = map event_meant c.args.kept.now.items in
    let leading = leading_same w (reached w es) c.args.list.now.events c.gather.new.replies.items c.as_slice.result.now _ c.as_slice.ensures.value (c.in-Ok.ensures es c.requires.at) in
    cut_over w es (map event_meant c.reserve.new.self.items) (ap (map event_meant) c.reserve.ensures.items) c.as_slice.result.now c.as_bytes.result.now (c.as_bytes.ensures.value ∙ leading.text) c.write_front-taken.result start logs
    (g.O.Sink.taken c.args.out.now) (g.O.Sink.taken c.write_front-taken.new.out) (g.O.Sink.faults c.args.out.now) (g.O.Sink.faults c.write_front-taken.new.out) driving c.write_front-taken.ensures.taken c.write_front-taken.ensures.later
    (map event_meant c.take_each.new.kept.items) c.take_each.result c.if-take_each.false c.take_each.ensures.goes
    (c.write_front-taken.ensures.rose (subst (λ n. c.write_front-taken.result < n) (lines_long w es (map event_meant c.reserve.new.self.items) (ap (map event_meant) c.reserve.ensures.items) c.as_slice.result.now c.as_bytes.result.now (c.as_bytes.ensures.value ∙ leading.text)) (c.take_each.ensures.cut c.if-take_each.false)))

pub returns-then-take_each-clause-once : goal.returns-then-take_each-clause-once
returns-then-take_each-clause-once g c =
    let w = fixed_of c.args.core.now.tables in
    let es = map event_meant c.args.kept.now.items in
    let leading = leading_same w (reached w es) c.args.list.now.events c.gather.new.replies.items c.as_slice.result.now _ c.as_slice.ensures.value (c.in-Ok.ensures es c.requires.at) in
    let long = lines_long w es (map event_meant c.reserve.new.self.items) (ap (map event_meant) c.reserve.ensures.items) c.as_slice.result.now c.as_bytes.result.now (c.as_bytes.ensures.value ∙ leading.text) in
    surely _ _ _ _ (λ _. subst (λ n. n ≤ c.write_front-taken.result) long (c.take_each.ensures.all c.if-take_each.true)) c.write_front-taken.ensures.once

pub returns-clause-once : goal.returns-clause-once
returns-clause-once g c = surely _ _ _ _ (λ no. absurd (no refl)) c.write_front-taken.ensures.once
