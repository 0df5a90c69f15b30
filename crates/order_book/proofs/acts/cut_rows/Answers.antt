use Rattle.std.proofs.Common.{◌<◌, ap, arith, length, get_or}
use Rattle.std.proofs.lemmas.List.{get_or_default}
use Rattle.std.proofs.lemmas.List.Edits.{map_over_more}
use Rattle.order_book.specs.Kept.{Kept, without_after}
use Rattle.order_book.proofs.acts.cut_rows.Goals as goal

pub loop-row-preserved : goal.loop-row-preserved
loop-row-preserved c =
    let here : Kept = get_or c.loop-row.row-items c.loop-row.row-index c.row-item.result in
    let there : c.loop-row.row-index < length c.loop-row.row-items = omega (arith, c.loop-row-test.true, c.loop-row.auto.row-items) in
    let within : c.loop-row.row-index < length c.args.rows.now.items = omega (arith, there, c.loop-row.auto.row-items, ap length c.deref_mut-row-items.ensures.value) in
    rw c.cut.ensures (map_over_more without_after c.args.rows.now.items c.loop-row.row-items c.loop-row.row-index here within c.loop-row.invariant
    (get_or_default c.loop-row.row-items c.loop-row.row-index c.row-item.result here there))
