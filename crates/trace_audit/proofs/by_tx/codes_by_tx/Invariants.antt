use Rattle.std.proofs.Common.{◌≡◌, length, take}
use Rattle.audit_papers.specs.ReportLines.{lines_of}
use Rattle.trace_audit.specs.Evidence.{TellsCodes}
use Rattle.trace_audit.proofs.by_tx.codes_by_tx.Given as goal

abbrev pub invariant-loop-line : goal.invariant-loop-line
invariant-loop-line l = record {
  many : length l.codes.items ≡ l.txs;
  told : TellsCodes (lines_of (take l.line-index l.lines)) l.codes.items;
}
