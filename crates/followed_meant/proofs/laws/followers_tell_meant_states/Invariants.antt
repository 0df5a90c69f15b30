use Rattle.std.proofs.Common.{take}
use Rattle.std.specs.List.{AllByRecursion}
use Rattle.aml_check.specs.Checked.{methods_of}
use Rattle.followed_meant.proofs.Meant.{OfPrograms}
use Rattle.followed_meant.proofs.laws.followers_tell_meant_states.Given as goal

abbrev pub invariant-loop-program : goal.invariant-loop-program
invariant-loop-program l = AllByRecursion (λ c. OfPrograms (methods_of c)) (take l.program-index l.programs)
