use Rattle.std.proofs.Common.{length, ◌-◌, ◌≤◌, take}
use Rattle.work_text.proofs.TextLines.{IsFree}
use Rattle.work_text.proofs.lines.line_end.Given as goal

abbrev pub invariant-loop-at : goal.invariant-loop-at
invariant-loop-at l = record { within : l.at ≤ length l.rest; free : IsFree (take l.at l.rest) }

-- proposed from the loop's first test
abbrev pub decreases-loop-at : goal.decreases-loop-at
decreases-loop-at l = length l.rest - l.at
