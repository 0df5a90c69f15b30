use Rattle.std.proofs.Common.{arith, ap, length, subst, sym}
use Rattle.snap_work.specs.Works.{work_of}
use Rattle.trace_text.specs.Traces.{IsTrace}
use Rattle.trace_audit.proofs.FirstFaults.{events_few, trace_refused}
use Rattle.trace_audit.proofs.audits.audit_trace.Goals as goal

pub returns-in_err-events : goal.returns-in_err-events
returns-in_err-events c input text parts is_work = trace_refused input text c.args.trace.now c.args.report.now (work_of c.args.work.now) c.in_err-events.field-0.0 c.from_residual.result c.from_residual.ensures.1 parts is_work c.in_err-events.ensures

pub audit_report-requires-clause-events : goal.audit_report-requires-clause-events
audit_report-requires-clause-events c = omega (arith, ap length c.as_slice.ensures.value, events_few c.args.trace.now c.in_ok-events.events.items c.in_ok-events.ensures, c.requires.trace)

pub returns : goal.returns
returns c input text parts is_work = c.audit_report.ensures input text c.args.trace.now parts is_work (subst (IsTrace c.args.trace.now) (sym c.as_slice.ensures.value) c.in_ok-events.ensures)
