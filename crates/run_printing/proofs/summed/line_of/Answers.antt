use Rattle.std.proofs.Common.{◌≡◌, IfOk, string_bytes, subst}
use Rattle.run_printing.proofs.summed.line_of.Goals as goal
use Rattle.snap_report.specs.Summaries.{summary_text}
use Rattle.snap_report.specs.declared.summaries.Summary.{Summary}

pub returns : goal.returns
returns c = subst (λ (summary : Summary). IfOk c.summary_line.result (λ s. string_bytes s ≡ summary_text summary)) c.summary_of-summary.ensures c.summary_line.ensures
