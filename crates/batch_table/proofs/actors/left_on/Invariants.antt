use Rattle.protocol.proofs.Totals.{IsCounted}
use Rattle.protocol.specs.Left.{declared_left}
use Rattle.batch_table.proofs.actors.left_on.Given as goal

abbrev pub invariant-loop-entry : goal.invariant-loop-entry
invariant-loop-entry l = IsCounted declared_left l.actors l.entry-index l.left
