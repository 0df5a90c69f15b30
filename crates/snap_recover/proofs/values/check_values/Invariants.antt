use Rattle.snap_recover.proofs.Valuing.{ValuedThrough}
use Rattle.snap_recover.proofs.values.check_values.Given as goal

abbrev pub invariant-loop-i : goal.invariant-loop-i
invariant-loop-i l = ValuedThrough l.logs l.committed l.i
