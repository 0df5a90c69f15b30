use Rattle.std.proofs.Common.{◌≡◌, map, take}
use Rattle.protocol.specs.OnRing.{numbered}
use Rattle.protocol.specs.Meant.{batch_pact}
use Rattle.token_ring.proofs.queue.Queue.numbered.Given as goal

abbrev pub invariant-loop-i : goal.invariant-loop-i
invariant-loop-i l = map batch_pact l.pacts.items ≡ numbered l.tid (take l.i l.self-inside.waiting.items)
