use Rattle.std.proofs.Common.{◌≡◌, ◌+◌, ◌∙◌, length, sym, ap, arith, rules}
use Rattle.aml_check.specs.Checked.{methods_of}
use Rattle.aml_resume.proofs.Entering.{within_here, not_none, enters_next, enters_done, done_within}
use Rattle.aml_resume.proofs.resumes.enter.Goals as goal

pub loop-depth-init : goal.loop-depth-init
loop-depth-init c whole e = e

pub position_at-from-requires : goal.position_at-from-requires
position_at-from-requires c = (within_here (methods_of c.args._program.now) c.args.operations.now c.args._own c.args.path.now c.loop-depth.depth c.args.next c.loop-depth.positions c.loop-depth.block c.args._variables.now c.args._state.now c.args._statements.now c.requires.enters.0 (c.loop-depth.invariant c.requires.enters.0 c.requires.enters.1) c.loop-depth-test.true).0

pub fetched-requires : goal.fetched-requires
fetched-requires c = omega (arith, (within_here (methods_of c.args._program.now) c.args.operations.now c.args._own c.args.path.now c.loop-depth.depth c.args.next c.loop-depth.positions c.loop-depth.block c.args._variables.now c.args._state.now c.args._statements.now c.requires.enters.0 (c.loop-depth.invariant c.requires.enters.0 c.requires.enters.1) c.loop-depth-test.true).0, c.position_at-from.ensures)

pub bounds-positions-depth : goal.bounds-positions-depth
bounds-positions-depth c = (within_here (methods_of c.args._program.now) c.args.operations.now c.args._own c.args.path.now c.loop-depth.depth c.args.next c.loop-depth.positions c.loop-depth.block c.args._variables.now c.args._state.now c.args._statements.now c.requires.enters.0 (c.loop-depth.invariant c.requires.enters.0 c.requires.enters.1) c.loop-depth-test.true).1

pub unreachable-requires : goal.unreachable-requires
unreachable-requires c = not_none (methods_of c.args._program.now) c.args.operations.now c.args._own c.args.path.now c.loop-depth.depth c.args.next c.loop-depth.positions c.loop-depth.block c.args._variables.now c.args._state.now c.args._statements.now c.requires.enters.0 (c.loop-depth.invariant c.requires.enters.0 c.requires.enters.1) c.loop-depth-test.true c.position_at-from.result c.fetched.result.now c.position_at-from.ensures c.fetched.ensures.here (sym c.opened.ensures ∙ c.in-None.is)

pub loop-depth-preserved : goal.loop-depth-preserved
loop-depth-preserved c whole e =
    let wide : length c.loop-depth.positions ≡ 32 = search rules in
    enters_next (methods_of c.args._program.now) c.args.operations.now c.args._own c.args.path.now c.loop-depth.depth c.args.next c.loop-depth.positions c.loop-depth.block c.args._variables.now c.args._state.now c.args._statements.now whole (c.loop-depth.invariant whole e) c.loop-depth-test.true c.position_at-from.result c.fetched.result.now c.in-Some.inner c.in-Some.behind c.position_at-from.ensures c.fetched.ensures.here (sym c.opened.ensures ∙ c.in-Some.is) wide

pub position_at-requires : goal.position_at-requires
position_at-requires c = omega (arith, done_within (methods_of c.args._program.now) c.args.operations.now c.args._own c.args.path.now c.loop-depth.depth c.args.next c.loop-depth.positions c.loop-depth.block c.args._variables.now c.args._state.now c.args._statements.now c.requires.enters.0 (c.loop-depth.invariant c.requires.enters.0 c.requires.enters.1) c.loop-depth-test.false, c.at_most-at.ensures)

pub returns : goal.returns
returns c whole e = enters_done (methods_of c.args._program.now) c.args.operations.now c.args._own c.args.path.now c.loop-depth.depth c.args.next c.loop-depth.positions c.loop-depth.block c.args._variables.now c.args._state.now c.args._statements.now whole (c.loop-depth.invariant whole e) c.loop-depth-test.false c.position_at.result (c.position_at.ensures ∙ ap (λ i. c.loop-depth.block.first + i) c.at_most-at.ensures)
