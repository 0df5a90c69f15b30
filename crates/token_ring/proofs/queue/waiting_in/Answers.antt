use Rattle.std.proofs.Common.{arith, length}
use Rattle.protocol.proofs.Totals.{counted_all}
use Rattle.token_ring.proofs.queue.waiting_in.Goals as goal

pub returns : goal.returns
returns c = counted_all length c.args.queues.now c.loop-queue.queue-index c.loop-queue.waiting (omega arith) c.loop-queue.invariant
