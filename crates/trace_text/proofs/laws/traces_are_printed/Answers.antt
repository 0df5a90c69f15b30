use Rattle.trace_text.proofs.Traces.{trace_text_is}
use Rattle.trace_text.proofs.laws.traces_are_printed.Goals as goal

pub returns : goal.returns
returns c = trace_text_is
