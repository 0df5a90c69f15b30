use Rattle.std.proofs.Common.{ap, arith, Err}
use Rattle.aml_tree.specs.Tree.{program_tree}
use Rattle.work_text.proofs.program.program_text.Goals as goal

pub fault_behind-requires : goal.fault_behind-requires
fault_behind-requires c =
    let first = c.in-Err-Fault.ensures.fault c.in-Err-Fault.fault (ap (λ why. Err why) c.in-Err-Fault.field-0-is) in
    omega (arith, c.requires, c.faults_stand_in_the_program.ensures (program_tree c.in-Ok.tree) c.in-Err-Fault.fault (c.lines_stand_in_the_text.ensures (program_tree c.in-Ok.tree) c.in-Ok.ensures.found) first)
