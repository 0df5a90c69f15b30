use Rattle.std.proofs.Common.{◌≡◌, true, false, ◌∷◌, length, reverse, set, sym, ap, ◌∙◌, arith, rules, FitsSigned, w64}
use Rattle.std.proofs.lemmas.List.{length-reverse}
use Rattle.std.proofs.lemmas.Int.{to_z-of_z}
use Rattle.std.proofs.lemmas.Result.{err_from_is_err_and}
use Rattle.aml_flat.specs.declared.operations.Operation.TheVariants as op
use Rattle.aml_check.specs.Checked.{methods_of}
use Rattle.aml_check.specs.Meaning.{is_nonzero}
use Rattle.aml_resume.proofs.Leading.{begins_closed, begins_failed}
use Rattle.aml_resume.proofs.Leads.{on_while, on_while_not, few_levels, levels_of}
use Rattle.aml_resume.proofs.statements.repeat.Goals as goal

pub counted-requires-clause-closed : goal.counted-requires-clause-closed
counted-requires-clause-closed c =
    rw c.as_slice.ensures.value (begins_closed (methods_of c.args._program.now) c.args._operations.now c.args.own (reverse c.args.activation.now.path.items) c.args.positions.now c.args.from c.args.activation.now.variables.items c.args.state.now c.args.statements.now c.requires.stands.0 c.requires.stands.1 (op.While c.args.at c.args.e.now c.args.body) c.requires.here tt)

pub returns-in_err-next-clause-runs : goal.returns-in_err-next-clause-runs
returns-in_err-next-clause-runs c whole l =
    let p = err_from_is_err_and c.from_residual.result c.from_residual.ensures.1 in
    let counted = rw c.as_slice.ensures.value at c.in_err-next.ensures.meant in
    rw (p.1, p.2) (begins_failed (methods_of c.args._program.now) c.args._operations.now c.args.own (reverse c.args.activation.now.path.items) c.args.positions.now c.args.from c.args.activation.now.variables.items c.args.state.now c.args.statements.now whole l (op.While c.args.at c.args.e.now c.args.body) c.requires.here tt c.in_err-next.field-0.0 c.counted.new.statements c.requires.ready.count counted c.in_err-next.ensures.counts)

pub enter_block-requires-clause-levels : goal.enter_block-requires-clause-levels
enter_block-requires-clause-levels c = omega (arith, few_levels (methods_of c.args._program.now) c.args._operations.now c.args.own (reverse c.args.activation.now.path.items) c.args.positions.now c.args.from c.args.activation.now.variables.items c.args.state.now c.args.statements.now c.requires.stands.0 c.requires.stands.1, length-reverse c.args.activation.now.path.items)

pub enter_block-requires-clause-room : goal.enter_block-requires-clause-room
enter_block-requires-clause-room c = omega (arith, few_levels (methods_of c.args._program.now) c.args._operations.now c.args.own (reverse c.args.activation.now.path.items) c.args.positions.now c.args.from c.args.activation.now.variables.items c.args.state.now c.args.statements.now c.requires.stands.0 c.requires.stands.1, length-reverse c.args.activation.now.path.items, c.requires.ready.room.1)

pub returns-then-holds-clause-runs : goal.returns-then-holds-clause-runs
returns-then-holds-clause-runs c whole l =
    let fits : FitsSigned w64 c.in_ok-next.next = search rules in
    let counted = rw c.as_slice.ensures.value at c.in_ok-next.ensures.meant in
    let test : is_nonzero c.in_ok-next.next ≡ true = sym (rw to_z-of_z at c.holds.ensures) ∙ c.if-holds.true in
    let wide : length c.args.positions.now ≡ 32 = search rules in
    let same = sym (length-reverse c.args.activation.now.path.items) ∙ levels_of (methods_of c.args._program.now) c.args._operations.now c.args.own (reverse c.args.activation.now.path.items) c.args.positions.now c.args.from c.args.activation.now.variables.items c.args.state.now c.args.statements.now whole l in
    let new = c.enter_block.ensures.path ∙ ap (λ q. q ∷ reverse c.args.activation.now.path.items) c.spot_here-spot.ensures in
    let moved = c.enter_block.ensures.positions ∙ ap (λ i. set c.args.positions.now i c.args.from) same in
    on_while (methods_of c.args._program.now) c.args._operations.now c.args.own (reverse c.args.activation.now.path.items) c.args.positions.now c.args.from c.args.activation.now.variables.items c.args.state.now c.args.statements.now whole l c.args.at c.args.e.now c.args.body c.in_ok-next.next c.counted.new.statements (reverse c.enter_block.new.path.items) c.enter_block.new.positions c.requires.ready.count c.requires.here counted test new moved wide

pub returns-else-holds-clause-runs : goal.returns-else-holds-clause-runs
returns-else-holds-clause-runs c whole l =
    let fits : FitsSigned w64 c.in_ok-next.next = search rules in
    let counted = rw c.as_slice.ensures.value at c.in_ok-next.ensures.meant in
    let test : is_nonzero c.in_ok-next.next ≡ false = sym (rw to_z-of_z at c.holds.ensures) ∙ c.if-holds.false in
    on_while_not (methods_of c.args._program.now) c.args._operations.now c.args.own (reverse c.args.activation.now.path.items) c.args.positions.now c.args.from c.args.activation.now.variables.items c.args.state.now c.args.statements.now whole l c.args.at c.args.e.now c.args.body c.in_ok-next.next c.counted.new.statements c.requires.ready.count c.requires.here counted test
