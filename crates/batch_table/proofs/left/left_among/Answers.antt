use Rattle.std.proofs.Common.{arith}
use Rattle.protocol.proofs.Totals.{counted_all}
use Rattle.protocol.specs.Left.{batch_left}
use Rattle.batch_table.proofs.left.left_among.Goals as goal

pub returns : goal.returns
returns c = counted_all batch_left c.args.batches.now c.loop-batch.batch-index c.loop-batch.left (omega arith) c.loop-batch.invariant
