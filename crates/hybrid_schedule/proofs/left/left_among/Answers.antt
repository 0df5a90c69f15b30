use Rattle.std.proofs.Common.{arith}
use Rattle.protocol.proofs.Totals.{counted_all}
use Rattle.protocol.specs.Left.{entry_left}
use Rattle.hybrid_schedule.proofs.left.left_among.Goals as goal

pub returns : goal.returns
returns c = counted_all entry_left c.args.entries.now c.loop-entry.entry-index c.loop-entry.left (omega arith) c.loop-entry.invariant
