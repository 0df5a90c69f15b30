use Rattle.protocol.proofs.Totals.{IsCounted}
use Rattle.protocol.specs.Left.{outcome_left}
use Rattle.cell_part.proofs.left.outcomes_left.Given as goal

abbrev pub invariant-loop-outcome : goal.invariant-loop-outcome
invariant-loop-outcome g l = IsCounted (outcome_left (g.W.Visits.code l.visits) (g.W.Visits.acts l.visits)) l.outbox l.outcome-index l.left
