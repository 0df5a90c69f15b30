use Rattle.std.proofs.Common.{◌≡◌, drop}
use Rattle.std.specs.List.{list_all}
use Rattle.protocol.specs.Words.{is_empty}
use Rattle.token_ring.proofs.queue.all_empty.Given as goal

abbrev pub invariant-loop-queue : goal.invariant-loop-queue
invariant-loop-queue l = list_all is_empty (drop l.queue-index l.queues) ≡ list_all is_empty l.queues
