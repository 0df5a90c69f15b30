use Rattle.std.proofs.Common.{◌≡◌, ◌+◌, length}
use Rattle.gate_log.specs.Reading.{GroupsSoFar}
use Rattle.gate_log.proofs.reads.read_groups.Given as goal

abbrev pub invariant-loop-rest : goal.invariant-loop-rest
invariant-loop-rest l = GroupsSoFar l.bytes l.at l.rest l.found × (l.at + length l.rest ≡ length l.bytes)

abbrev pub decreases-loop-rest : goal.decreases-loop-rest
decreases-loop-rest l = length l.rest
