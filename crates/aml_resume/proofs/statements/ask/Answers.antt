use Rattle.std.proofs.Common.{◌+◌, reverse, arith, rules, refl, FitsSigned, w64}
use Rattle.std.proofs.lemmas.Int.{to_z-of_z}
use Rattle.std.proofs.lemmas.Result.{err_from_is_err_and}
use Rattle.aml_flat.specs.declared.operations.Operation.TheVariants as op
use Rattle.aml_check.specs.Checked.{methods_of}
use Rattle.aml_resume.proofs.Leading.{begins_closed, begins_failed}
use Rattle.aml_resume.proofs.Leads.{on_call, on_call_failed, asked, few_asked}
use Rattle.aml_resume.proofs.statements.ask.Goals as goal

pub counted-requires-clause-closed : goal.counted-requires-clause-closed
counted-requires-clause-closed c =
    rw c.as_slice.ensures.value (begins_closed (methods_of c.args._program.now) c.args._operations.now c.args.own (reverse c.args.activation.now.path.items) c.args._positions.now c.args.from c.args.activation.now.variables.items c.args.state.now c.args.statements.now c.requires.stands.0 c.requires.stands.1 (op.Call c.args.at c.args.e.now c.args.method c.args.es.now) c.requires.here tt)

pub returns-in_err-actor-clause-runs : goal.returns-in_err-actor-clause-runs
returns-in_err-actor-clause-runs c whole l =
    let p = err_from_is_err_and c.from_residual.result c.from_residual.ensures.1 in
    let counted = rw c.as_slice.ensures.value at c.in_err-actor.ensures.meant in
    rw (p.1, p.2) (begins_failed (methods_of c.args._program.now) c.args._operations.now c.args.own (reverse c.args.activation.now.path.items) c.args._positions.now c.args.from c.args.activation.now.variables.items c.args.state.now c.args.statements.now whole l (op.Call c.args.at c.args.e.now c.args.method c.args.es.now) c.requires.here tt c.in_err-actor.field-0.0 c.counted.new.statements c.requires.ready.count counted c.in_err-actor.ensures.counts)

pub pass-requires-clause-closed : goal.pass-requires-clause-closed
pass-requires-clause-closed c = rw (c.as_slice-2.ensures.value, c.as_slice-3.ensures.value) ((asked (methods_of c.args._program.now) c.args._operations.now c.args.own (reverse c.args.activation.now.path.items) c.args._positions.now c.args.from c.args.activation.now.variables.items c.args.state.now c.args.statements.now c.requires.stands.0 c.requires.stands.1 c.args.at c.args.e.now c.args.method c.args.es.now c.requires.here).1)

pub pass-requires-clause-room : goal.pass-requires-clause-room
pass-requires-clause-room c = omega (arith, few_asked (methods_of c.args._program.now) c.args._operations.now c.args.own (reverse c.args.activation.now.path.items) c.args._positions.now c.args.from c.args.activation.now.variables.items c.args.state.now c.args.statements.now c.requires.stands.0 c.requires.stands.1 c.requires.closed c.args.at c.args.e.now c.args.method c.args.es.now c.requires.here, c.requires.ready.arguments_room)

pub overflow_add-activation : goal.overflow_add-activation
overflow_add-activation c = omega (arith, (asked (methods_of c.args._program.now) c.args._operations.now c.args.own (reverse c.args.activation.now.path.items) c.args._positions.now c.args.from c.args.activation.now.variables.items c.args.state.now c.args.statements.now c.requires.stands.0 c.requires.stands.1 c.args.at c.args.e.now c.args.method c.args.es.now c.requires.here).2, c.requires.at)

pub returns-in_err-pass-clause-runs : goal.returns-in_err-pass-clause-runs
returns-in_err-pass-clause-runs c whole l =
    let fits : FitsSigned w64 c.in_ok-actor.actor = search rules in
    let p = err_from_is_err_and c.from_residual-in_err-pass.result c.from_residual-in_err-pass.ensures.1 in
    let counted = rw c.as_slice.ensures.value at c.in_ok-actor.ensures.meant in
    let given = rw (c.as_slice-2.ensures.value, c.as_slice-3.ensures.value) at c.in_err-pass.ensures.meant in
    rw (p.1, p.2) (on_call_failed (methods_of c.args._program.now) c.args._operations.now c.args.own (reverse c.args.activation.now.path.items) c.args._positions.now c.args.from c.args.activation.now.variables.items c.args.state.now c.args.statements.now whole l c.args.at c.args.e.now c.args.method c.args.es.now c.in_ok-actor.actor c.counted.new.statements c.in_err-pass.field-0.0 c.requires.here counted given)

pub returns-clause-runs : goal.returns-clause-runs
returns-clause-runs c whole l =
    let fits : FitsSigned w64 c.in_ok-actor.actor = search rules in
    let counted = rw c.as_slice.ensures.value at c.in_ok-actor.ensures.meant in
    let given = rw (c.as_slice-2.ensures.value, c.as_slice-3.ensures.value) at c.in_ok-pass.ensures.meant in
    rw to_z-of_z (on_call (methods_of c.args._program.now) c.args._operations.now c.args.own (reverse c.args.activation.now.path.items) c.args._positions.now c.args.from c.args.activation.now.variables.items c.args.state.now c.args.statements.now whole l c.args.at c.args.e.now c.args.method c.args.es.now c.in_ok-actor.actor c.counted.new.statements c.pass.new.arguments.items c.args.activation.now.path.items (c.args.at + 1) c.requires.here counted given refl refl)
