use Rattle.std.proofs.Common.{◌≡◌, [], map, take}
use Rattle.audit_words.specs.Audited.{EachLine}
use Rattle.audit_words.specs.Clauses.{TellsPlace}
use Rattle.audit_words.specs.Seen.{Seen}
use Rattle.audit_papers.specs.ReportLines.{lines_of}
use Rattle.audit_tale.specs.Knows.{member_of}
use Rattle.trace_audit.proofs.places.first_off_place.Given as goal

abbrev pub invariant-loop-at : goal.invariant-loop-at
invariant-loop-at l = (s : Seen) → map member_of l.members ≡ s.members → EachLine (TellsPlace s) [] (lines_of (take l.at l.lines))
