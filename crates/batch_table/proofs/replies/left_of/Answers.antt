use Rattle.std.proofs.Common.{arith}
use Rattle.protocol.proofs.Totals.{counted_all}
use Rattle.protocol.specs.Left.{reply_left}
use Rattle.batch_table.proofs.replies.left_of.Goals as goal

pub returns : goal.returns
returns c = counted_all reply_left c.args.marks.now c.loop-replied.replied-index c.loop-replied.left (omega arith) c.loop-replied.invariant
