use Rattle.trace_text.proofs.Traces.{trace_one}
use Rattle.trace_text.proofs.laws.one_trace.Goals as goal

pub returns : goal.returns
returns c = trace_one
