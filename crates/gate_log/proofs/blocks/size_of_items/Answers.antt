use Rattle.std.proofs.Common.{arith}
use Rattle.gate_log.proofs.AppendItems.{size_within}
use Rattle.gate_log.proofs.blocks.size_of_items.Goals as goal

pub overflow_add-size : goal.overflow_add-size
overflow_add-size c =
    let within = size_within c.args.items.now c.loop-item.item-index c.item-item.result c.loop-item-test.true c.item-item.is in
    let size = c.len.ensures in
    omega (arith, within, size)

pub overflow_add-size-in-loop-item : goal.overflow_add-size-in-loop-item
overflow_add-size-in-loop-item c =
    let within = size_within c.args.items.now c.loop-item.item-index c.item-item.result c.loop-item-test.true c.item-item.is in
    let size = c.len.ensures in
    omega (arith, within, size)
