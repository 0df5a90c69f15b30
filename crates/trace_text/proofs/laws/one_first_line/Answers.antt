use Rattle.trace_text.proofs.Traces.{first_one}
use Rattle.trace_text.proofs.laws.one_first_line.Goals as goal

pub returns : goal.returns
returns c = first_one
