use Rattle.std.proofs.Common.{◌≡◌, ◌≤◌, length, drop}
use Rattle.protocol.specs.Words.{tail_group}
use Rattle.hybrid_schedule.proofs.Counting.{tail_count}
use Rattle.hybrid_schedule.proofs.askings.tail_length.Given as goal

abbrev pub invariant-loop-e : goal.invariant-loop-e
invariant-loop-e l = (length (tail_group l.entries) ≡ tail_count l.count (drop l.e-index l.entries)) × (l.count ≤ l.e-index)
