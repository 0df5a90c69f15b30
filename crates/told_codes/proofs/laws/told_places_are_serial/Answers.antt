use Rattle.told_codes.proofs.PlacesTold.{places_stand}
use Rattle.told_codes.proofs.laws.told_places_are_serial.Goals as goal

pub returns : goal.returns
returns g c = places_stand
