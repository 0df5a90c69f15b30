use Rattle.std.proofs.Common.{[], take}
use Rattle.audit_papers.specs.ReportLines.{lines_of}
use Rattle.audit_words.specs.Audited.{EachLine}
use Rattle.trace_audit.specs.Meanings.{TellsWalk}
use Rattle.trace_audit.proofs.meaning.first_off_walk.Given as goal

abbrev pub invariant-loop-at : goal.invariant-loop-at
invariant-loop-at l = EachLine (TellsWalk l.walk.results.items l.walk.world.items) [] (lines_of (take l.at l.lines))
