use Rattle.std.proofs.Common.{[], take}
use Rattle.audit_words.specs.Audited.{EachLine}
use Rattle.audit_words.specs.Clauses.{MayFollow}
use Rattle.trace_audit.specs.Counted.{Counted}
use Rattle.audit_papers.specs.ReportLines.{lines_of}
use Rattle.trace_audit.proofs.shape.first_off_shape.Given as goal

abbrev pub invariant-loop-at : goal.invariant-loop-at
invariant-loop-at l = record {
  each : EachLine (MayFollow l.sizes.txs l.sizes.actors l.sizes.settled) [] (lines_of (take l.at l.lines));
  counted : Counted l.sizes.txs (lines_of (take l.at l.lines)) l.counts.answered.items l.counts.committed l.counts.aborted;
}
