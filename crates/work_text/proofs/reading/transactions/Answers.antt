use Rattle.std.proofs.Common.{arith, length-append}
use Rattle.std.proofs.lemmas.Result.{err_from_is_err_and}
use Rattle.aml_check.specs.Checked.{methods_of}
use Rattle.work_text.specs.Lines.{said}
use Rattle.work_text.specs.Cursors.{ahead, line_of}
use Rattle.work_text.proofs.AskedLines.{one_asked, all_asked, none_more}
use Rattle.work_text.proofs.EndLines.{said_found, said_none}
use Rattle.work_text.proofs.reading.transactions.Goals as goal

pub returns-in_err-tx : goal.returns-in_err-tx
returns-in_err-tx c =
    let p = err_from_is_err_and c.from_residual.result c.from_residual.ensures.1 in
    rw (p.1, p.2) (none_more (methods_of c.args.program.now) c.args.actors (said (ahead c.args.cursor)) (said (ahead c.loop-line.at)) c.loop-line.txs.items (line_of c.in-Ok.line) (said (ahead c.in-Ok.behind)) c.in_err-tx.field-0.0 c.len.result
    c.loop-line.invariant.are (said_found (ahead c.loop-line.at) (line_of c.in-Ok.line, ahead c.in-Ok.behind) c.in-Ok.ensures.found) (omega arith) c.in_err-tx.ensures)

pub loop-line-preserved : goal.loop-line-preserved
loop-line-preserved c =
    let one = one_asked (methods_of c.args.program.now) c.args.actors (said (ahead c.args.cursor)) (said (ahead c.loop-line.at)) c.loop-line.txs.items (line_of c.in-Ok.line) (said (ahead c.in-Ok.behind)) c.in_ok-tx.tx c.len.result
    c.loop-line.invariant.are (said_found (ahead c.loop-line.at) (line_of c.in-Ok.line, ahead c.in-Ok.behind) c.in-Ok.ensures.found) (omega arith) c.in_ok-tx.ensures in
    rw c.in_ok-push.ensures.items (record { are = one; short = c.in-Ok.ensures.onward.1; few = rw length-append (omega (arith, c.in_ok-tx.ensures.2)) })

pub returns : goal.returns
returns c =
    rw c.from_vec.ensures (all_asked (methods_of c.args.program.now) c.args.actors (said (ahead c.args.cursor)) (said (ahead c.loop-line.at)) c.loop-line.txs.items
    c.loop-line.invariant.are (said_none (ahead c.loop-line.at) c.in_default.ensures.found))
