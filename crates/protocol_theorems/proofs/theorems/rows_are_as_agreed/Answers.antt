use Rattle.protocol_theorems.proofs.sets.RowsLaw.{rows_law}
use Rattle.protocol_theorems.proofs.theorems.rows_are_as_agreed.Goals as goal

pub returns : goal.returns
returns g c = rows_law
