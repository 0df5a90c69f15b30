use Rattle.trace_text.proofs.Events.{event_one}
use Rattle.trace_text.proofs.laws.one_event.Goals as goal

pub returns : goal.returns
returns c = event_one
