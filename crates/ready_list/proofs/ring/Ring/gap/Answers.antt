use Rattle.std.proofs.Common.{◌≡◌, ◌++◌, arith, ap, subst, map, ◌∙◌}
use Rattle.core_events.specs.Meant.{event_meant}
use Rattle.protocol.specs.Schedule.{AscendByRank}
use Rattle.ready_list.proofs.Gaps.{higher, lower, read, same_length}
use Rattle.ready_list.proofs.ring.Ring.gap.Goals as goal

pub loop-low-preserved-then-stands_before : goal.loop-low-preserved-then-stands_before
loop-low-preserved-then-stands_before c =
    let v : map event_meant c.self.inside.events.items ≡ c.args.self.now.events = ap (λ r. r.events) c.self.view_is in
    let u = ap (map event_meant) c.as_slices.ensures.items ∙ v in
    let n = same_length (c.as_slices.result.0.now ++ c.as_slices.result.1.now) c.args.self.now.events u in
    higher _ _ _ _ _ c.ranks_are_in_order.ensures.through (subst AscendByRank v c.self.invariant) c.loop-low.invariant (omega (arith, c.loop-low-test.true)) (read (c.as_slices.result.0.now ++ c.as_slices.result.1.now) c.args.self.now.events _ c.event_at.result (event_meant c.args.e) c.place_of-place.result c.stands_before.result _ u c.requires (omega (arith, c.loop-low-test.true, c.loop-low.invariant.within, n)) c.event_at.ensures c.place_of-place.ensures c.stands_before.ensures c.if-stands_before.true)

pub loop-low-preserved : goal.loop-low-preserved
loop-low-preserved c =
    let v : map event_meant c.self.inside.events.items ≡ c.args.self.now.events = ap (λ r. r.events) c.self.view_is in
    let u = ap (map event_meant) c.as_slices.ensures.items ∙ v in
    let n = same_length (c.as_slices.result.0.now ++ c.as_slices.result.1.now) c.args.self.now.events u in
    lower _ _ _ _ _ c.ranks_are_in_order.ensures.through (subst AscendByRank v c.self.invariant) c.loop-low.invariant (omega (arith, c.loop-low-test.true)) (omega (arith, c.loop-low-test.true)) (read (c.as_slices.result.0.now ++ c.as_slices.result.1.now) c.args.self.now.events _ c.event_at.result (event_meant c.args.e) c.place_of-place.result c.stands_before.result _ u c.requires (omega (arith, c.loop-low-test.true, c.loop-low.invariant.within, n)) c.event_at.ensures c.place_of-place.ensures c.stands_before.ensures c.if-stands_before.false)
