use Rattle.std.proofs.Common.{◌≡◌, ◌+◌, length}
use Rattle.gate_log.proofs.ReadingItems.{ItemsSoFar}
use Rattle.gate_log.proofs.reads.push_items.Given as goal

abbrev pub invariant-loop-rest : goal.invariant-loop-rest
invariant-loop-rest l = ItemsSoFar l.fn.at l.fn.bytes l.fn.found l.place l.rest l.found × (l.place + length l.rest ≡ l.fn.at + length l.fn.bytes)

abbrev pub decreases-loop-rest : goal.decreases-loop-rest
decreases-loop-rest l = length l.rest
