use Rattle.protocol_theorems.proofs.halves.HalvesGoOn.{step}
use Rattle.protocol_theorems.proofs.books.halves_stay_fit.Goals as goal

pub returns : goal.returns
returns g c = step
