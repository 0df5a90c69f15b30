use Rattle.snap_recover.proofs.Checking.{WholeThrough}
use Rattle.snap_recover.proofs.wholes.check_kind.Given as goal

abbrev pub invariant-loop-i : goal.invariant-loop-i
invariant-loop-i l = WholeThrough l.kind l.logs l.committed l.i
