use Rattle.std.proofs.Common.{[], take}
use Rattle.audit_papers.specs.ReportLines.{lines_of}
use Rattle.audit_tale.specs.Stands.{IsSound, KnowsAll}
use Rattle.audit_words.specs.Audited.{EachLine}
use Rattle.audit_words.specs.Clauses.{TellsEvidence}
use Rattle.audit_words.specs.Inputs.{first_text, language}
use Rattle.audit_words.specs.Seen.{Seen}
use Rattle.snap_work.specs.Works.{work_of}
use Rattle.trace_audit.proofs.evidence.first_off_evidence.Given as goal

abbrev pub invariant-loop-at : goal.invariant-loop-at
invariant-loop-at l = (s : Seen) → IsSound s → KnowsAll (first_text (work_of l.work)) l.told s
    → EachLine (TellsEvidence (language (work_of l.work)).meaning (first_text (work_of l.work)) s (lines_of l.lines)) [] (lines_of (take l.at l.lines))
