use Rattle.protocol_laws.proofs.first.PairsFound.{pairs_stand}
use Rattle.protocol_laws.proofs.laws.pairs_carry_before_numbers.Goals as goal

pub returns : goal.returns
returns g c = pairs_stand
