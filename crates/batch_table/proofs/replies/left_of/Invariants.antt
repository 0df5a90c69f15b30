use Rattle.protocol.proofs.Totals.{IsCounted}
use Rattle.protocol.specs.Left.{reply_left}
use Rattle.batch_table.proofs.replies.left_of.Given as goal

abbrev pub invariant-loop-replied : goal.invariant-loop-replied
invariant-loop-replied l = IsCounted reply_left l.marks l.replied-index l.left
