use Rattle.aml_check.proofs.MethodsByPlace.{named_here, named_nowhere}
use Rattle.aml_check.proofs.programs.Checked.method_named.Goals as goal

pub returns-in_err-place-clause-none : goal.returns-in_err-place-clause-none
returns-in_err-place-clause-none c =
    rw (c.from_residual.ensures, ← c.self.view_is) (named_nowhere c.self.inside.program c.args.name.now (rw c.as_slice.ensures at c.in_err-place.ensures.none))

pub returns-clause-found : goal.returns-clause-found
returns-clause-found c =
    let here = rw c.as_slice.ensures at c.in_ok-place.ensures.found in
    rw (← c.self.view_is) (named_here c.self.inside.program c.in_ok-place.place c.args.name.now here.0 here.1)
