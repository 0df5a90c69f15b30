use Rattle.std.proofs.Common.{length, vec_capacity}
use Rattle.aml_check.specs.Checked.{methods_of}
use Rattle.aml_resume.specs.Pausing.{Pause}
use Rattle.aml_resume.specs.Machine.{StaysReady, Stands, left_to_do}
use Rattle.aml_resume.proofs.operations.run.Given as goal

abbrev pub decreases-steps : goal.decreases-steps
decreases-steps l = left_to_do l.statements (length l.activation.path.items)

abbrev pub invariant-steps : goal.invariant-steps
invariant-steps l = record {
  stands : (whole : Pause) → Stands (methods_of l.program) l.operations l.own l.fn.activation l.fn.positions l.from l.fn.state l.fn.statements whole → Stands (methods_of l.program) l.operations l.own l.activation l.positions l.at l.state l.statements whole;
  keeps : StaysReady (vec_capacity l.fn.arguments) l.fn.statements l.activation (vec_capacity l.arguments) l.statements;
}
