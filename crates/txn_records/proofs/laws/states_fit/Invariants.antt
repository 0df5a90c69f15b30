use Rattle.std.proofs.Common.{take, FitsSigned}
use Rattle.std.specs.List.{AllByRecursion}
use Rattle.std.specs.Int.{w64}
use Rattle.txn_records.proofs.laws.states_fit.Given as goal

abbrev pub invariant-loop-field : goal.invariant-loop-field
invariant-loop-field l = AllByRecursion (FitsSigned w64) (take l.field-index l.state.0)
