use Rattle.std.proofs.Common.{length, reverse, sym, ap, arith}
use Rattle.std.proofs.lemmas.List.{length-reverse}
use Rattle.aml_check.specs.Checked.{methods_of}
use Rattle.aml_resume.proofs.Leads.{on_end, on_leave, few_levels}
use Rattle.aml_resume.proofs.statements.leave.Goals as goal

pub position_behind-to-requires : goal.position_behind-to-requires
position_behind-to-requires c = omega (arith, few_levels (methods_of c.args._program.now) c.args._operations.now c.args.own (reverse c.args.activation.now.path.items) c.args.positions.now c.args.from c.args.activation.now.variables.items c.args._state.now c.args._statements.now c.requires.stands.0 c.requires.stands.1, length-reverse c.args.activation.now.path.items, c.in-Some.ensures.innermost.1)

pub returns-in-None-clause-runs : goal.returns-in-None-clause-runs
returns-in-None-clause-runs c whole l = on_end (methods_of c.args._program.now) c.args._operations.now c.args.own (reverse c.args.activation.now.path.items) c.args.positions.now c.args.from c.args.activation.now.variables.items c.args._state.now c.args._statements.now whole l c.requires.here (ap reverse c.in-None.ensures.innermost.0)

pub returns-in-Some-clause-runs : goal.returns-in-Some-clause-runs
returns-in-Some-clause-runs c whole l =
    let left = c.take_spot.new.path.items in
    on_leave (methods_of c.args._program.now) c.args._operations.now c.args.own (reverse c.args.activation.now.path.items) c.args.positions.now c.args.from c.args.activation.now.variables.items c.args._state.now c.args._statements.now whole l c.requires.here c.in-Some.spot (reverse left) c.position_behind-to.result (length left) c.truncate.new.self.items c.in-Some.ensures.innermost.0 (sym (length-reverse left)) c.position_behind-to.ensures c.truncate.ensures.items
