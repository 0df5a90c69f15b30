use Rattle.std.proofs.Common.{take}
use Rattle.std.specs.List.{AllByRecursion}
use Rattle.snap_recover.specs.Logs.{all_of}
use Rattle.snap_recover.specs.Opening.{IsInRange}
use Rattle.snap_recover.proofs.ranges.check_range.Given as goal

abbrev pub invariant-loop-i : goal.invariant-loop-i
invariant-loop-i l = AllByRecursion (IsInRange l.actors) (all_of (take l.i l.logs))
