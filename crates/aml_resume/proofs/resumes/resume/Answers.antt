use Rattle.std.proofs.Common.{◌∙◌, Ok, arith, sym}
use Rattle.std.proofs.lemmas.Result.{err_from_is_err_and}
use Rattle.aml_check.specs.Checked.{methods_of}
use Rattle.aml_check.specs.Names.{method_at}
use Rattle.aml_resume.specs.Pausing.{method_pause}
use Rattle.aml_resume.specs.Rooms.{standing_of}
use Rattle.aml_resume.proofs.Entering.{begins, body_deep, leads_on, told_again}
use Rattle.aml_resume.proofs.resumes.resume.Goals as goal

pub enter-from-requires : goal.enter-from-requires
enter-from-requires c =
    let p = methods_of c.args.program.now in
    let a = c.args.activation.now in
    let whole = method_pause c.args.own (method_at p c.args.method).body (standing_of a) c.args.state.now c.args.statements.now in
    record { enters = (whole, begins p c.flat-flat.result.now.operations.items c.as_slice-operations.result.now c.args.own (method_at p c.args.method).body c.body_of-body.result a.path.items c.as_slice.result.now a.next _ a.variables.items c.as_slice-2.result.now c.args.state.now c.args.statements.now c.body_of-body.ensures c.requires.place (body_deep p c.args.method c.flat-flat.ensures.closed c.requires.method) c.as_slice-operations.ensures.value (c.as_slice.ensures.value ∙ c.reverse.ensures.items) c.as_slice-2.ensures.value) }

pub run-requires-clause-ready : goal.run-requires-clause-ready
run-requires-clause-ready c = record { room = (c.requires.room.0, omega (arith, c.reverse.ensures.capacity, c.requires.room.1)); arguments_room = c.requires.arguments; count = c.requires.count }

pub run-requires-clause-stands : goal.run-requires-clause-stands
run-requires-clause-stands c =
    let p = methods_of c.args.program.now in
    let a = c.args.activation.now in
    let whole = method_pause c.args.own (method_at p c.args.method).body (standing_of a) c.args.state.now c.args.statements.now in
    (whole, leads_on p c.as_slice-operations.result.now c.args.own c.as_slice.result.now c.reverse.new.self.items c.enter-from.new.positions c.enter-from.result c.as_slice-2.result.now a.variables.items c.args.state.now c.args.statements.now whole (c.enter-from.ensures whole (begins p c.flat-flat.result.now.operations.items c.as_slice-operations.result.now c.args.own (method_at p c.args.method).body c.body_of-body.result a.path.items c.as_slice.result.now a.next _ a.variables.items c.as_slice-2.result.now c.args.state.now c.args.statements.now c.body_of-body.ensures c.requires.place (body_deep p c.args.method c.flat-flat.ensures.closed c.requires.method) c.as_slice-operations.ensures.value (c.as_slice.ensures.value ∙ c.reverse.ensures.items) c.as_slice-2.ensures.value)) c.as_slice.ensures.value c.as_slice-2.ensures.value)

pub returns-in_err-exit-clause-exactly : goal.returns-in_err-exit-clause-exactly
returns-in_err-exit-clause-exactly c =
    let p = methods_of c.args.program.now in
    let a = c.args.activation.now in
    let whole = method_pause c.args.own (method_at p c.args.method).body (standing_of a) c.args.state.now c.args.statements.now in
    let e = err_from_is_err_and c.from_residual.result c.from_residual.ensures.1 in
    rw (e.1, e.2) (sym (c.in_err-exit.ensures.runs whole (leads_on p c.as_slice-operations.result.now c.args.own c.as_slice.result.now c.reverse.new.self.items c.enter-from.new.positions c.enter-from.result c.as_slice-2.result.now a.variables.items c.args.state.now c.args.statements.now whole (c.enter-from.ensures whole (begins p c.flat-flat.result.now.operations.items c.as_slice-operations.result.now c.args.own (method_at p c.args.method).body c.body_of-body.result a.path.items c.as_slice.result.now a.next _ a.variables.items c.as_slice-2.result.now c.args.state.now c.args.statements.now c.body_of-body.ensures c.requires.place (body_deep p c.args.method c.flat-flat.ensures.closed c.requires.method) c.as_slice-operations.ensures.value (c.as_slice.ensures.value ∙ c.reverse.ensures.items) c.as_slice-2.ensures.value)) c.as_slice.ensures.value c.as_slice-2.ensures.value)))

pub returns-clause-exactly : goal.returns-clause-exactly
returns-clause-exactly c =
    let p = methods_of c.args.program.now in
    let a = c.args.activation.now in
    let whole = method_pause c.args.own (method_at p c.args.method).body (standing_of a) c.args.state.now c.args.statements.now in
    let b = c.run.new.activation in
    told_again (Ok c.in_ok-exit.exit) b.path.items c.reverse-2.new.self.items b.next b.variables.items c.run.new.arguments.items c.run.new.state c.run.new.statements c.reverse-2.ensures.items
    ∙ sym (c.in_ok-exit.ensures.runs whole (leads_on p c.as_slice-operations.result.now c.args.own c.as_slice.result.now c.reverse.new.self.items c.enter-from.new.positions c.enter-from.result c.as_slice-2.result.now a.variables.items c.args.state.now c.args.statements.now whole (c.enter-from.ensures whole (begins p c.flat-flat.result.now.operations.items c.as_slice-operations.result.now c.args.own (method_at p c.args.method).body c.body_of-body.result a.path.items c.as_slice.result.now a.next _ a.variables.items c.as_slice-2.result.now c.args.state.now c.args.statements.now c.body_of-body.ensures c.requires.place (body_deep p c.args.method c.flat-flat.ensures.closed c.requires.method) c.as_slice-operations.ensures.value (c.as_slice.ensures.value ∙ c.reverse.ensures.items) c.as_slice-2.ensures.value)) c.as_slice.ensures.value c.as_slice-2.ensures.value))
