use Rattle.std.proofs.Common.{take, FitsSigned}
use Rattle.std.specs.List.{AllByRecursion}
use Rattle.std.specs.Int.{w64}
use Rattle.txn_records.proofs.laws.values_fit.Given as goal

abbrev pub invariant-loop-value : goal.invariant-loop-value
invariant-loop-value l = AllByRecursion (FitsSigned w64) (take l.value-index l.values)
