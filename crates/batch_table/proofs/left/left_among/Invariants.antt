use Rattle.protocol.proofs.Totals.{IsCounted}
use Rattle.protocol.specs.Left.{batch_left}
use Rattle.batch_table.proofs.left.left_among.Given as goal

abbrev pub invariant-loop-batch : goal.invariant-loop-batch
invariant-loop-batch l = IsCounted batch_left l.batches l.batch-index l.left
