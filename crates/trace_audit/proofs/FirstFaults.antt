-- What is wrong with an input first: what each reader refuses is the first fault.
use Rattle.std.specs.Prelude.{◌≡◌, refl, ℕ, ◌+◌, ◌==◌, ◌≤◌, Bool, true, false, if◌then◌else◌, Result, Ok, Err, IsErrAnd, MatchResult, List, [], ◌∷◌, length}
use Rattle.std.proofs.Common.{arith, ap, sym, subst}
use Rattle.std.proofs.lemmas.List.{length-map}
use Rattle.snap_base.specs.Lines.{lines, onto_line}
use Rattle.snap_work.specs.Works.{Work}
use Rattle.snap_work.specs.declared.faults.WorkFault.{WorkFault}
use Rattle.snap_work.specs.declared.faults.WorkNo.{WorkNo}
use Rattle.snap_work.specs.declared.faults.WorkNo.TheVariants as work
use Rattle.core_events.specs.declared.events.Event as event
use Rattle.trace_text.specs.Lines.{event_line}
use Rattle.trace_text.specs.Traces.{IsTrace, IsTraceNo}
use Rattle.trace_text.specs.declared.trace_no.TraceNo.{TraceNo}
use Rattle.trace_text.specs.declared.trace_no.TraceNo.TheVariants as traces
use Rattle.work_text.specs.Reads.{IsWork, IsFirstWorkFault}
use Rattle.audit_words.specs.Inputs.{ArePapers, IsInOrder}
use Rattle.audit_words.specs.Papers.{AreParts, IsReport, Line}
use Rattle.audit_papers.specs.ReportLines.{IsReportNo}
use Rattle.audit_papers.specs.declared.report_no.ReportNo.{ReportNo}
use Rattle.audit_papers.specs.declared.report_no.ReportNo.TheVariants as reports
use Rattle.audit_tale.specs.Settings.{meant}
use Rattle.trace_audit.specs.AuditNos.{IsAuditNo, no_report, no_trace, no_work}
use Rattle.trace_audit.specs.declared.audit_no.AuditNo.{AuditNo}

-- ---- a text has no more lines than bytes

onto_few : (b : ℕ) (ls : List (List ℕ)) → length (onto_line b ls) ≤ length ls + 1
onto_few b [] = omega arith
onto_few b (l ∷ ls) = omega arith

lines_few : (bs : List ℕ) → length (lines bs) ≤ length bs
lines_few [] = omega arith
lines_few (b ∷ bs) = by (b == 10) (lines_few bs)
  where
    by : (c : Bool) → length (lines bs) ≤ length bs → length (if c then [] ∷ lines bs else onto_line b (lines bs)) ≤ length (b ∷ bs)
    by true few = omega (arith, few)
    by false few = omega (arith, few, onto_few b (lines bs))

pub events_few : (text : List ℕ) (es : List event.Event) → IsTrace text es → length es ≤ length text
events_few text es t = omega (arith, lines_few text, ap length t.said, length-map es event_line)

-- ---- the papers that an input has

pub papers_of : (input text trace report : List ℕ) (w : Work) (es : List event.Event) (ls : List Line) → AreParts input text trace report → IsWork text w → IsTrace trace es → IsReport report ls → ArePapers input w (meant es) ls
papers_of input text trace report w es ls p is_work is_trace is_report = record { text = text; trace = trace; report = report; events = es; parts = p; is_work = is_work; is_trace = is_trace; meant = refl; is_report = is_report }

-- ---- what a reader refuses is the first fault

refused : {A : Type 0} (input : List ℕ) (why : AuditNo) (r : Result A AuditNo) → IsErrAnd r (λ e. e ≡ why) → IsAuditNo input why → MatchResult r (λ u. IsInOrder input) (IsAuditNo input)
refused input why (Ok u) e h = absurd e
refused input why (Err x) e h = subst (IsAuditNo input) (sym e) h

pub text_refused : {A : Type 0} (input text trace report : List ℕ) (why : WorkNo) (r : Result A AuditNo) → IsErrAnd r (λ e. e ≡ no_work why) → AreParts input text trace report → ((f : WorkFault) → why ≡ work.Fault f → IsFirstWorkFault text f)
    → MatchResult r (λ u. IsInOrder input) (IsAuditNo input)
text_refused input text trace report why r e p h = refused input (no_work why) r e (by why h)
  where
    by : (x : WorkNo) → ((f : WorkFault) → x ≡ work.Fault f → IsFirstWorkFault text f) → IsAuditNo input (no_work x)
    by (work.Fault f) k = (text, (trace, (report, (p, k f refl))))
    by work.Memory k = tt

pub trace_refused : {A : Type 0} (input text trace report : List ℕ) (w : Work) (why : TraceNo) (r : Result A AuditNo) → IsErrAnd r (λ e. e ≡ no_trace why) → AreParts input text trace report → IsWork text w → IsTraceNo trace why
    → MatchResult r (λ u. IsInOrder input) (IsAuditNo input)
trace_refused input text trace report w why r e p is_work h = refused input (no_trace why) r e (by why h)
  where
    by : (x : TraceNo) → IsTraceNo trace x → IsAuditNo input (no_trace x)
    by (traces.Line line) k = (text, (trace, (report, (p, (w, (is_work, k))))))
    by traces.Memory k = tt

pub report_refused : {A : Type 0} (input text trace report : List ℕ) (w : Work) (es : List event.Event) (why : ReportNo) (r : Result A AuditNo) → IsErrAnd r (λ e. e ≡ no_report why) → AreParts input text trace report → IsWork text w → IsTrace trace es
    → IsReportNo report why → MatchResult r (λ u. IsInOrder input) (IsAuditNo input)
report_refused input text trace report w es why r e p is_work is_trace h = refused input (no_report why) r e (by why h)
  where
    by : (x : ReportNo) → IsReportNo report x → IsAuditNo input (no_report x)
    by (reports.Line line) k = (text, (trace, (report, (p, (w, (es, (is_work, is_trace, k)))))))
    by reports.Memory k = tt
