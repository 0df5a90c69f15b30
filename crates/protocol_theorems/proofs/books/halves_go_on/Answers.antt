use Rattle.protocol_theorems.proofs.halves.HalvesGoOn.{halves_go_on}
use Rattle.protocol_theorems.proofs.books.halves_go_on.Goals as goal

pub returns : goal.returns
returns g c = halves_go_on
