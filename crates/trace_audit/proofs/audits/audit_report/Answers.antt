use Rattle.std.proofs.Common.{subst, sym}
use Rattle.snap_work.specs.Works.{work_of}
use Rattle.audit_words.specs.Papers.{IsReport}
use Rattle.audit_papers.specs.ReportLines.{lines_of}
use Rattle.trace_audit.proofs.FirstFaults.{report_refused}
use Rattle.trace_audit.proofs.audits.audit_report.Goals as goal

pub returns-in_err-lines : goal.returns-in_err-lines
returns-in_err-lines c input text trace parts is_work is_trace =
    report_refused input text trace c.args.report.now (work_of c.args.work.now) c.args.events.now c.in_err-lines.field-0.0 c.from_residual.result c.from_residual.ensures.1 parts is_work is_trace c.in_err-lines.ensures

pub returns : goal.returns
returns c input text trace parts is_work is_trace =
    c.audit_papers.ensures input text trace c.args.report.now parts is_work is_trace (subst (λ ls. IsReport c.args.report.now (lines_of ls)) (sym c.as_slice.ensures.value) c.in_ok-lines.ensures)
