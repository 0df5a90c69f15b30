use Rattle.snap_recover.specs.declared.kinds.Kind.TheVariants as kinds
use Rattle.snap_recover.specs.Passes.{commit_key}
use Rattle.snap_recover.proofs.Placing.{InfosThrough}
use Rattle.snap_recover.proofs.commits.gathered.Given as goal

abbrev pub invariant-loop-i : goal.invariant-loop-i
invariant-loop-i l = InfosThrough (commit_key kinds.Batch) l.logs l.i l.places.items
