use Rattle.protocol_theorems.proofs.sets.RowsLaw.{rises_law}
use Rattle.protocol_theorems.proofs.theorems.numbers_are_carried_through_all_pairs.Goals as goal

pub returns : goal.returns
returns g c = rises_law
