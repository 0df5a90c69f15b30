use Rattle.std.proofs.Common.{arith}
use Rattle.protocol.proofs.Totals.{counted_all}
use Rattle.protocol.specs.Left.{waiting_left}
use Rattle.cell_part.proofs.left.waiting_left.Goals as goal

pub returns : goal.returns
returns g c = counted_all (waiting_left (g.W.Visits.code c.args.visits.now) (g.W.Visits.acts c.args.visits.now)) c.args.inbox.now c.loop-waiting.waiting-index c.loop-waiting.left (omega arith) c.loop-waiting.invariant
