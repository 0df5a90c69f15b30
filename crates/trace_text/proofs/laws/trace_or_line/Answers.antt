use Rattle.trace_text.proofs.Traces.{no_trace}
use Rattle.trace_text.proofs.laws.trace_or_line.Goals as goal

pub returns : goal.returns
returns c = no_trace
