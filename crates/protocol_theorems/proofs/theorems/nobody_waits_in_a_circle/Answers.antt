use Rattle.protocol_theorems.proofs.quiet.WaitsLaw.{waits_law}
use Rattle.protocol_theorems.proofs.theorems.nobody_waits_in_a_circle.Goals as goal

pub returns : goal.returns
returns g c = waits_law
