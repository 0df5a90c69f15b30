use Rattle.protocol_laws.proofs.first.OnePlace.{transactions_in_one_place}
use Rattle.protocol_laws.proofs.laws.transactions_are_in_one_place.Goals as goal

pub returns : goal.returns
returns g c = transactions_in_one_place
