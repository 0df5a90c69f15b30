use Rattle.std.proofs.Common.{take}
use Rattle.std.specs.List.{AllByRecursion}
use Rattle.snap_recover.specs.Opening.{IsInRange}
use Rattle.snap_recover.proofs.ranges.first_out_of_range.Given as goal

abbrev pub invariant-loop-r : goal.invariant-loop-r
invariant-loop-r l = AllByRecursion (IsInRange l.actors) (take l.r-index l.rs)
