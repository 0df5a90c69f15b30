use Rattle.protocol.proofs.Totals.{IsCounted}
use Rattle.protocol.specs.Left.{entry_left}
use Rattle.hybrid_schedule.proofs.left.left_among.Given as goal

abbrev pub invariant-loop-entry : goal.invariant-loop-entry
invariant-loop-entry l = IsCounted entry_left l.entries l.entry-index l.left
