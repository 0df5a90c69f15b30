use Rattle.protocol_laws.proofs.first.CellEpochs.{cells_agree}
use Rattle.protocol_laws.proofs.laws.cells_agree_with_the_cascades.Goals as goal

pub returns : goal.returns
returns g c = cells_agree
