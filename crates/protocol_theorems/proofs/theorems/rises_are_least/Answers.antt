use Rattle.protocol_theorems.proofs.sets.LeastRise.{rises_are_least}
use Rattle.protocol_theorems.proofs.theorems.rises_are_least.Goals as goal

pub returns : goal.returns
returns c = rises_are_least
