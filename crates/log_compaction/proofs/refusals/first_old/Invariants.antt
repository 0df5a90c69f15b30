use Rattle.log_compaction.specs.Steps.{AreRecent}
use Rattle.log_compaction.proofs.refusals.first_old.Given as goal

abbrev pub invariant-loop-number : goal.invariant-loop-number
invariant-loop-number g l = AreRecent l.opened.logs.items l.opened.found l.head l.number
