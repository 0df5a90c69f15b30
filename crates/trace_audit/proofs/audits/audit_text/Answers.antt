use Rattle.std.proofs.Common.{Err, ap}
use Rattle.trace_audit.proofs.FirstFaults.{text_refused}
use Rattle.trace_audit.proofs.audits.audit_text.Goals as goal

pub returns-in_err-work : goal.returns-in_err-work
returns-in_err-work c input parts = text_refused input c.args.text.now c.args.trace.now c.args.report.now c.in_err-work.field-0.0 c.from_residual.result c.from_residual.ensures.1 parts (λ f e. c.in_err-work.ensures.fault f (ap Err e))

pub audit_trace-requires-clause-limits : goal.audit_trace-requires-clause-limits
audit_trace-requires-clause-limits c = c.transactions_may_run.ensures c.args.text.now _ c.in_ok-work.ensures.found

pub returns : goal.returns
returns c input parts = c.audit_trace.ensures input c.args.text.now parts c.in_ok-work.ensures.found
