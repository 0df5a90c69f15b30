use Rattle.std.proofs.Common.{◌≡◌, drop}
use Rattle.token_ring.proofs.queue.Queue.leave.Given as goal

abbrev pub invariant-loop-left : goal.invariant-loop-left
invariant-loop-left l = l.self-inside.waiting.items ≡ drop l._left l.initial.self-inside.waiting.items
