use Rattle.std.proofs.Common.{take}
use Rattle.std.specs.List.{AllByRecursion}
use Rattle.log_compact.specs.Points.{IsPlain}
use Rattle.log_compact.proofs.strays.all_plain.Given as goal

abbrev pub invariant-loop-r : goal.invariant-loop-r
invariant-loop-r l = AllByRecursion IsPlain (take l.r-index l.records)
