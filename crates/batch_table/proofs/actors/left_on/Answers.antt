use Rattle.std.proofs.Common.{arith}
use Rattle.protocol.proofs.Totals.{counted_all}
use Rattle.protocol.specs.Left.{declared_left}
use Rattle.batch_table.proofs.actors.left_on.Goals as goal

pub returns : goal.returns
returns c = counted_all declared_left c.args.actors.now c.loop-entry.entry-index c.loop-entry.left (omega arith) c.loop-entry.invariant
