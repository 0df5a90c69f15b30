use Rattle.std.proofs.Common.{arith}
use Rattle.protocol.proofs.Totals.{counted_all}
use Rattle.protocol.specs.Left.{outcome_left}
use Rattle.cell_part.proofs.left.outcomes_left.Goals as goal

pub returns : goal.returns
returns g c = counted_all (outcome_left (g.W.Visits.code c.args.visits.now) (g.W.Visits.acts c.args.visits.now)) c.args.outbox.now c.loop-outcome.outcome-index c.loop-outcome.left (omega arith) c.loop-outcome.invariant
