use Rattle.trace_text.proofs.Traces.{trace_printed}
use Rattle.trace_text.proofs.laws.printed_traces.Goals as goal

pub returns : goal.returns
returns c = trace_printed
