use Rattle.std.proofs.Common.{arith}
use Rattle.aml_check.specs.Checked.{methods_of}
use Rattle.aml_resume.proofs.Entering.{as_many, body_lies}
use Rattle.aml_resume.proofs.resumes.body_of.Goals as goal

pub bounds-bodies-method : goal.bounds-bodies-method
bounds-bodies-method c = omega (arith, c.as_slice-bodies.ensures.len, as_many c.args.flat.now.operations.items c.args.flat.now.bodies.items (methods_of c.args._program.now) c.requires.lies, c.requires.method)

pub returns : goal.returns
returns c = rw c.as_slice-bodies.ensures.value (body_lies c.args.flat.now.operations.items c.args.flat.now.bodies.items (methods_of c.args._program.now) c.args.method (record { first = 0; count = 0 }) c.requires.lies c.requires.method)
