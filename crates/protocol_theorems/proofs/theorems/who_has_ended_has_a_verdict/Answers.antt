use Rattle.protocol_theorems.proofs.sets.RowsLaw.{verdicts_law}
use Rattle.protocol_theorems.proofs.theorems.who_has_ended_has_a_verdict.Goals as goal

pub returns : goal.returns
returns g c = verdicts_law
