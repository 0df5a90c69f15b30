use Rattle.protocol_laws.proofs.first.Ranges.{numbers_in_range}
use Rattle.protocol_laws.proofs.offers.numbers_are_in_range.Goals as goal

pub returns : goal.returns
returns g c = numbers_in_range
