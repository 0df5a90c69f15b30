-- What is wrong with an input, in the words of `audit_words`, and why there are no papers of a run.
use Rattle.std.specs.Prelude.{ℕ, List, ⊤}
use Rattle.snap_report.specs.declared.audit_faults.AuditFault.{AuditFault}
use Rattle.snap_report.specs.declared.audit_faults.AuditFault.TheVariants as audit
use Rattle.snap_work.specs.declared.faults.WorkNo.{WorkNo}
use Rattle.snap_work.specs.declared.faults.WorkNo.TheVariants as work
use Rattle.trace_text.specs.declared.trace_no.TraceNo.{TraceNo}
use Rattle.trace_text.specs.declared.trace_no.TraceNo.TheVariants as trace
use Rattle.audit_papers.specs.declared.report_no.ReportNo.{ReportNo}
use Rattle.audit_papers.specs.declared.report_no.ReportNo.TheVariants as report
use Rattle.audit_words.specs.Inputs.{InputFault, Parts, Text, Trace, Report, Clause, IsFirstFault}
use Rattle.trace_audit.specs.declared.audit_no.AuditNo.{AuditNo}
use Rattle.trace_audit.specs.declared.audit_no.AuditNo.TheVariants as no

-- ---- the answers of the readers, as ones of the auditor

abbrev pub no_work : WorkNo → AuditNo
no_work (work.Fault f) = no.Fault (audit.Text f)
no_work work.Memory = no.Memory

abbrev pub no_trace : TraceNo → AuditNo
no_trace (trace.Line line) = no.Fault (audit.Trace line)
no_trace trace.Memory = no.Memory

abbrev pub no_report : ReportNo → AuditNo
no_report (report.Line line) = no.Fault (audit.Report line)
no_report report.Memory = no.Memory

-- ---- what they say

-- what is wrong, in the words of the definitions
abbrev pub fault_meant : AuditFault → InputFault
fault_meant audit.Parts = Parts
fault_meant (audit.Text f) = Text f
fault_meant (audit.Trace line) = Trace line
fault_meant (audit.Report line) = Report line
fault_meant (audit.Clause clause at) = Clause clause at

-- it is the first fault of the input; of want of memory nothing is said
abbrev pub IsAuditNo : List ℕ → AuditNo → Type 0
IsAuditNo input (no.Fault f) = IsFirstFault input (fault_meant f)
IsAuditNo input no.Memory = ⊤
