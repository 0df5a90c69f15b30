use Rattle.snap_follow.proofs.Leaving.{LeavingThrough}
use Rattle.snap_follow.proofs.settling.leaving_in.Given as goal

abbrev pub invariant-loop-i : goal.invariant-loop-i
invariant-loop-i l = LeavingThrough l.first l.there l.taken l.set l.now l.i l.leaving
