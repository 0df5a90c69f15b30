use Rattle.std.proofs.Common.{length}
use Rattle.protocol.proofs.Totals.{IsCounted}
use Rattle.token_ring.proofs.queue.waiting_in.Given as goal

abbrev pub invariant-loop-queue : goal.invariant-loop-queue
invariant-loop-queue l = IsCounted length l.queues l.queue-index l.waiting
