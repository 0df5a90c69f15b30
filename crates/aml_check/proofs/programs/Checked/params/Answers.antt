use Rattle.std.proofs.Common.{arith}
use Rattle.aml_check.proofs.MethodsByPlace.{parameters_fit}
use Rattle.aml_check.proofs.programs.Checked.params.Goals as goal

pub overflow_cast-result : goal.overflow_cast-result
overflow_cast-result c =
    let fits = parameters_fit c.self.inside.program c.args.method c.index-methods-method.result c.self.invariant.0 (rw c.self.view_is c.requires) in
    rw (c.len.ensures, c.as_slice-methods.ensures) (omega (arith, fits))
