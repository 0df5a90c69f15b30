use Rattle.std.proofs.Common.{◌+◌, ap, sym, ◌∙◌, arith}
use Rattle.std.proofs.lemmas.Result.{err_from_is_err_and}
use Rattle.aml_check.specs.Checked.{methods_of}
use Rattle.snap_base.specs.Outcomes.{Serial}
use Rattle.aml_serial.proofs.SerialLists.{serial_more}
use Rattle.aml_serial.proofs.runs.run_list.Goals as goal

pub returns-in_err-push-clause-memory : goal.returns-in_err-push-clause-memory
returns-in_err-push-clause-memory c =
    let p = err_from_is_err_and c.from_residual-in_err-push.result c.from_residual-in_err-push.ensures.1 in
    let run = serial_more (methods_of c.args.program.now) c.args.world.now.items c.loop-tx.world.items c.args.txs.now c.loop-tx.tx-index c.tx-item.result c.loop-tx.results _ _ c.loop-tx-test.true c.tx-item.is c.loop-tx.invariant.so_far c.in_ok-result.ensures.alone in
    rw p.1 (c.loop-tx.tx-index + 1, omega arith, sym (ap (λ (r : Serial). r.world) run))

pub loop-tx-preserved : goal.loop-tx-preserved
loop-tx-preserved c =
    let run = serial_more (methods_of c.args.program.now) c.args.world.now.items c.loop-tx.world.items c.args.txs.now c.loop-tx.tx-index c.tx-item.result c.loop-tx.results _ _ c.loop-tx-test.true c.tx-item.is c.loop-tx.invariant.so_far c.in_ok-result.ensures.alone in
    record { so_far = rw c.in_ok-push.ensures run; actors = c.run_alone.ensures.actors ∙ c.loop-tx.invariant.actors }
