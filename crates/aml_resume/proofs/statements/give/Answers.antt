use Rattle.std.proofs.Common.{reverse, rules, FitsSigned, w64}
use Rattle.std.proofs.lemmas.Int.{to_z-of_z}
use Rattle.std.proofs.lemmas.Result.{err_from_is_err_and}
use Rattle.aml_flat.specs.declared.operations.Operation.TheVariants as op
use Rattle.aml_check.specs.Checked.{methods_of}
use Rattle.aml_resume.proofs.Leading.{begins_closed, begins_failed}
use Rattle.aml_resume.proofs.Leads.{on_return}
use Rattle.aml_resume.proofs.statements.give.Goals as goal

pub counted-requires-clause-closed : goal.counted-requires-clause-closed
counted-requires-clause-closed c =
    rw c.as_slice.ensures.value (begins_closed (methods_of c.args._program.now) c.args._operations.now c.args.own (reverse c.args.activation.now.path.items) c.args._positions.now c.args.from c.args.activation.now.variables.items c.args.state.now c.args.statements.now c.requires.stands.0 c.requires.stands.1 (op.Return c.args.e.now) c.requires.here tt)

pub returns-in_err-next-clause-runs : goal.returns-in_err-next-clause-runs
returns-in_err-next-clause-runs c whole l =
    let p = err_from_is_err_and c.from_residual.result c.from_residual.ensures.1 in
    let counted = rw c.as_slice.ensures.value at c.in_err-next.ensures.meant in
    rw (p.1, p.2) (begins_failed (methods_of c.args._program.now) c.args._operations.now c.args.own (reverse c.args.activation.now.path.items) c.args._positions.now c.args.from c.args.activation.now.variables.items c.args.state.now c.args.statements.now whole l (op.Return c.args.e.now) c.requires.here tt c.in_err-next.field-0.0 c.counted.new.statements c.requires.ready.count counted c.in_err-next.ensures.counts)

pub returns-clause-runs : goal.returns-clause-runs
returns-clause-runs c whole l =
    let fits : FitsSigned w64 c.in_ok-next.next = search rules in
    let counted = rw c.as_slice.ensures.value at c.in_ok-next.ensures.meant in
    rw to_z-of_z (on_return (methods_of c.args._program.now) c.args._operations.now c.args.own (reverse c.args.activation.now.path.items) c.args._positions.now c.args.from c.args.activation.now.variables.items c.args.state.now c.args.statements.now whole l c.args.e.now c.in_ok-next.next c.counted.new.statements c.requires.here counted)
