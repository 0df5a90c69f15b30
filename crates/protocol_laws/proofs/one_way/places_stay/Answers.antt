use Rattle.protocol_laws.proofs.machine.PlacesStay.{places_stay}
use Rattle.protocol_laws.proofs.one_way.places_stay.Goals as goal

pub returns : goal.returns
returns g c = places_stay
