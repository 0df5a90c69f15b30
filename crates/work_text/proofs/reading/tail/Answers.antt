use Rattle.std.proofs.lemmas.Result.{err_from_is_err_and}
use Rattle.aml_check.specs.Checked.{methods_of}
use Rattle.work_text.specs.Lines.{said}
use Rattle.work_text.specs.Cursors.{ahead}
use Rattle.work_text.proofs.EndLines.{end_found, end_stops, end_fails}
use Rattle.work_text.proofs.reading.tail.Goals as goal

pub returns-in_err-states : goal.returns-in_err-states
returns-in_err-states c =
    let p = err_from_is_err_and c.from_residual.result c.from_residual.ensures.1 in
    rw (p.1, p.2) (end_stops (methods_of c.args.program.now) c.args.actors (said (ahead c.args.cursor)) c.in_err-states.field-0.0 c.in_err-states.ensures.reads)

pub returns-in_err-txs : goal.returns-in_err-txs
returns-in_err-txs c =
    let p = err_from_is_err_and c.from_residual-in_err-txs.result c.from_residual-in_err-txs.ensures.1 in
    rw (p.1, p.2) (end_fails (methods_of c.args.program.now) c.args.actors (said (ahead c.args.cursor)) (said (ahead c.in_ok-states.behind)) c.in_ok-states.states.items c.in_err-txs.field-0.0 c.in_ok-states.ensures.reads c.in_err-txs.ensures)

pub returns : goal.returns
returns c = rw c.from_vec.ensures (end_found (methods_of c.args.program.now) c.args.actors (said (ahead c.args.cursor)) (said (ahead c.in_ok-states.behind)) c.in_ok-states.states.items c.in_ok-txs.txs c.in_ok-states.ensures.reads c.in_ok-txs.ensures)
