use Rattle.protocol.proofs.Totals.{IsCounted}
use Rattle.protocol.specs.Left.{waiting_left}
use Rattle.cell_part.proofs.left.waiting_left.Given as goal

abbrev pub invariant-loop-waiting : goal.invariant-loop-waiting
invariant-loop-waiting g l = IsCounted (waiting_left (g.W.Visits.code l.visits) (g.W.Visits.acts l.visits)) l.inbox l.waiting-index l.left
