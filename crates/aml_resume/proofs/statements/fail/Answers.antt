use Rattle.std.proofs.Common.{reverse}
use Rattle.std.proofs.lemmas.Result.{err_from_is_err_and}
use Rattle.aml_check.specs.Checked.{methods_of}
use Rattle.aml_resume.proofs.Leads.{on_fail, on_fail_full, same_code}
use Rattle.aml_resume.proofs.statements.fail.Goals as goal

pub returns-in_err-begin-clause-runs : goal.returns-in_err-begin-clause-runs
returns-in_err-begin-clause-runs c whole l =
    let p = err_from_is_err_and c.from_residual.result c.from_residual.ensures.1 in
    let full = c.in_err-begin.ensures.full in
    rw (p.1, p.2, same_code c.in_err-begin.field-0.0 1008 full.2) (on_fail_full (methods_of c.args._program.now) c.args._operations.now c.args.own (reverse c.args.activation.now.path.items) c.args._positions.now c.args.from c.args.activation.now.variables.items c.args.state.now c.args.statements.now whole l c.args.code c.begin.new.statements c.requires.here full.0 full.1)

pub returns-clause-runs : goal.returns-clause-runs
returns-clause-runs c whole l = on_fail (methods_of c.args._program.now) c.args._operations.now c.args.own (reverse c.args.activation.now.path.items) c.args._positions.now c.args.from c.args.activation.now.variables.items c.args.state.now c.args.statements.now whole l c.args.code c.begin.new.statements c.requires.here c.in_ok-begin.ensures.one.0 c.in_ok-begin.ensures.one.1
