use Rattle.std.proofs.Common.{[], take}
use Rattle.audit_words.specs.Audited.{EachLine}
use Rattle.audit_words.specs.Clauses.{TellsOrder}
use Rattle.audit_words.specs.Seen.{Seen}
use Rattle.audit_papers.specs.ReportLines.{lines_of}
use Rattle.trace_audit.specs.Risen.{TellsChains}
use Rattle.trace_audit.proofs.order.first_off_order.Given as goal

abbrev pub invariant-loop-at : goal.invariant-loop-at
invariant-loop-at l = (s : Seen) → TellsChains s l.members l.actors → EachLine (TellsOrder s) [] (lines_of (take l.at l.lines))
