use Rattle.protocol_theorems.proofs.bounds.FewPlaces.{places_are_few}
use Rattle.protocol_theorems.proofs.parts.places_are_few.Goals as goal

pub returns : goal.returns
returns g c = places_are_few
