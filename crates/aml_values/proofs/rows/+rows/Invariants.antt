use Rattle.std.proofs.Common.{◌≤◌, ◌+◌, ◌-◌, ◌*◌, drop, length}
use Rattle.aml_values.specs.Rows.{Becomes}
use Rattle.aml_values.proofs.rows.+rows.Given as goal

abbrev pub decreases-along : goal.decreases-along
decreases-along l = 2 * (length l.parts.now - l.from)

abbrev pub decreases-opened : goal.decreases-opened
decreases-opened l = 2 * (length l.parts.now - l.from) + 1

abbrev pub invariant-along-loop-at : goal.invariant-along-loop-at
invariant-along-loop-at l = Becomes l.own l.variables l.state l.fn.first (drop l.from l.parts) l.so_far (drop l.at l.parts) × (l.from ≤ l.at) × (l.at ≤ length l.parts)

abbrev pub decreases-along-loop-at : goal.decreases-along-loop-at
decreases-along-loop-at l = length l.parts - l.at
