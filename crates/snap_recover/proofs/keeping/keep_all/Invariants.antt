use Rattle.snap_recover.proofs.Spots.{KeptThrough}
use Rattle.snap_recover.proofs.keeping.keep_all.Given as goal

abbrev pub invariant-loop-i : goal.invariant-loop-i
invariant-loop-i l = KeptThrough l.logs l.spots.items l.i l.kept
