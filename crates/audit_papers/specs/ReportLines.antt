-- The lines of a report that the code has, in the words of `audit_words`.
use Rattle.std.specs.Prelude.{ℕ, List, map, ⊤}
use Rattle.audit_words.specs.Papers as papers
use Rattle.audit_papers.specs.declared.report_line.ReportLine as code
use Rattle.audit_papers.specs.declared.report_line.ReportLine.TheVariants as lines
use Rattle.audit_papers.specs.declared.report_no.ReportNo.{ReportNo}
use Rattle.audit_papers.specs.declared.report_no.ReportNo.TheVariants as no

abbrev pub line_of : code.ReportLine → papers.Line
line_of (lines.Reply n v) = papers.Reply n.0 v
line_of (lines.Actor a fields) = papers.Actor a.0 fields
line_of (lines.End x y z) = papers.End x y z
line_of (lines.Kept p v) = papers.Kept p v
line_of (lines.Recovered x y t k c) = papers.Recovered x y t k c

abbrev pub lines_of : List code.ReportLine → List papers.Line
lines_of ls = map line_of ls

-- why a text gives no lines
abbrev pub IsReportNo : List ℕ → ReportNo → Type 0
IsReportNo text (no.Line line) = papers.IsFirstNoLine text line
IsReportNo text no.Memory = ⊤

-- it tells no actor's fields
abbrev pub IsNoActorLine : papers.Line → Type 0
IsNoActorLine (papers.Actor a fields) = ⊥
IsNoActorLine _ = ⊤
