use Rattle.snap_core.proofs.InOrder.{AreFirst}
use Rattle.snap_core.proofs.cores.Core.verdicts.Given as goal

abbrev pub invariant-loop-n : goal.invariant-loop-n
invariant-loop-n l = AreFirst l.self l.all.items l.n
