use Rattle.std.proofs.Common.{take}
use Rattle.std.specs.List.{AllByRecursion}
use Rattle.aml_slice.specs.aml_check.Checked.{methods_of}
use Rattle.run_recovery.proofs.SeveralRuns.{AreRecovered}
use Rattle.run_recovery.proofs.laws.runs_go_on_behind_each_other.Given as goal

abbrev pub invariant-loop-program : goal.invariant-loop-program
invariant-loop-program l = AllByRecursion (λ c. AreRecovered (methods_of c)) (take l.program-index l.programs)
