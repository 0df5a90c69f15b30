use Rattle.std.proofs.Common.{take}
use Rattle.std.specs.List.{AllByRecursion}
use Rattle.aml_check.specs.Checked.{methods_of}
use Rattle.machine_laws.specs.Programs.{TextsHaveFacts}
use Rattle.machine_recovery.proofs.laws.logs_recover_behind_each_run.Given as goal

abbrev pub invariant-loop-program : goal.invariant-loop-program
invariant-loop-program l = AllByRecursion (λ c. TextsHaveFacts (methods_of c)) (take l.program-index l.programs)
