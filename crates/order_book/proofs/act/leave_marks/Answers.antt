use Rattle.std.proofs.Common.{◌<◌, ap, arith, length, get_or}
use Rattle.std.specs.Prelude.{◌==◌}
use Rattle.std.proofs.lemmas.List.{get_or_default}
use Rattle.std.proofs.lemmas.List.Edits.{map_over_more}
use Rattle.protocol.specs.Parts.{Joined}
use Rattle.protocol.specs.OnBook.{mark_if, has_left}
use Rattle.order_book.proofs.act.leave_marks.Goals as goal

pub loop-mark-preserved : goal.loop-mark-preserved
loop-mark-preserved c =
    let here : Joined = get_or c.loop-mark.mark-items c.loop-mark.mark-index c.mark-item.result in
    let there : c.loop-mark.mark-index < length c.loop-mark.mark-items = omega (arith, c.loop-mark-test.true, c.loop-mark.auto.mark-items) in
    let within : c.loop-mark.mark-index < length c.args.marks.now.items = omega (arith, there, c.loop-mark.auto.mark-items, ap length c.deref_mut-mark-items.ensures.value) in
    rw c.leave.ensures (map_over_more (λ (p : Joined). mark_if (p.actor == c.args.actor.0) has_left p) c.args.marks.now.items c.loop-mark.mark-items c.loop-mark.mark-index here within c.loop-mark.invariant
    (get_or_default c.loop-mark.mark-items c.loop-mark.mark-index c.mark-item.result here there))
