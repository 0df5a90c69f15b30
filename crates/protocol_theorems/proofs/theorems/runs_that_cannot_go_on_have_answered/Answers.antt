use Rattle.protocol_theorems.proofs.quiet.QuietLaw.{answered_law}
use Rattle.protocol_theorems.proofs.theorems.runs_that_cannot_go_on_have_answered.Goals as goal

pub returns : goal.returns
returns g c = answered_law
