use Rattle.protocol_theorems.proofs.sets.RowsLaw.{conditions_law}
use Rattle.protocol_theorems.proofs.theorems.conditions_are_as_agreed.Goals as goal

pub returns : goal.returns
returns g c = conditions_law
