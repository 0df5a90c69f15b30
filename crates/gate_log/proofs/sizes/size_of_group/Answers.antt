use Rattle.std.proofs.Common.{arith}
use Rattle.gate_log.proofs.AppendItems.{size_within}
use Rattle.gate_log.proofs.sizes.size_of_group.Goals as goal

pub returns-then-size-gt-LARGEST_GROUP-clause-none : goal.returns-then-size-gt-LARGEST_GROUP-clause-none
returns-then-size-gt-LARGEST_GROUP-clause-none c =
    let within = size_within c.args.items.now c.loop-item.item-index c.item-item.result c.loop-item-test.true c.item-item.is in
    let size = c.len-len.ensures in
    λ _ short. omega (arith, within, size)
