use Rattle.std.proofs.Common.{◌≡◌, ◌+◌, ◌≤◌, length}
use Rattle.audit_papers.proofs.ReadLines.{HasRead}
use Rattle.audit_papers.specs.ReportLines.{lines_of}
use Rattle.audit_papers.proofs.line_words.parse_report.Given as goal

abbrev pub invariant-loop-rest : goal.invariant-loop-rest
invariant-loop-rest l = record {
  read : HasRead l.text (lines_of l.found.items) l.rest;
  number : l.line ≡ length l.found.items;
  short : l.line + length l.rest ≤ length l.text;
}

abbrev pub decreases-loop-rest : goal.decreases-loop-rest
decreases-loop-rest l = length l.rest
