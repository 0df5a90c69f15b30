use Rattle.std.proofs.Common.{◌≤◌, ◌-◌, length}
use Rattle.audit_papers.specs.Found.{SearchedTo}
use Rattle.audit_papers.proofs.parts.cut_at.Given as goal

abbrev pub invariant-loop-at : goal.invariant-loop-at
invariant-loop-at l = record { within : l.at ≤ length l.bytes; so_far : SearchedTo l.at l.divider l.bytes l.found }

abbrev pub decreases-loop-at : goal.decreases-loop-at
decreases-loop-at l = length l.bytes - l.at
