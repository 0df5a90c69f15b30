use Rattle.std.proofs.Common.{◌-◌, arith}
use Rattle.batch_table.proofs.ByNumber.{is_place, nowhere_below, nowhere_above}
use Rattle.batch_table.proofs.table.place_of.Goals as goal

pub returns-then-bid-base : goal.returns-then-bid-base
returns-then-bid-base c = nowhere_below c.args.bid.0 c.args.base c.args.batches.now c.requires c.if-bid-base.true

pub returns-then-place-batches : goal.returns-then-place-batches
returns-then-place-batches c =
    (is_place c.args.bid.0 c.args.base (c.args.bid.0 - c.args.base - 1) c.args.batches.now c.requires c.if-place-batches.true (omega (arith, c.if-bid-base.false)), omega (arith, c.if-bid-base.false))

pub returns-else-place-batches : goal.returns-else-place-batches
returns-else-place-batches c =
    nowhere_above c.args.bid.0 c.args.base (c.args.bid.0 - c.args.base - 1) c.args.batches.now c.requires c.if-place-batches.false (omega (arith, c.if-bid-base.false))
