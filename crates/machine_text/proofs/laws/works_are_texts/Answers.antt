use Rattle.machine_text.proofs.Accepted.{accepted}
use Rattle.machine_text.proofs.laws.works_are_texts.Goals as goal

pub returns : goal.returns
returns c = accepted
