use Rattle.trace_audit.proofs.Finding.{code_next}
use Rattle.trace_audit.proofs.by_tx.codes_by_tx.Goals as goal

pub loop-line-preserved : goal.loop-line-preserved
loop-line-preserved c =
    let next = code_next c.args.txs c.args.lines.now c.loop-line.line-index c.line-item.result c.loop-line.codes.items c.note_code.new.codes.items c.loop-line-test.true c.line-item.is c.requires c.loop-line.invariant.many c.loop-line.invariant.told c.note_code.ensures in
    record { many = next.0; told = next.1 }
