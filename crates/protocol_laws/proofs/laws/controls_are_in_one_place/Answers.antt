use Rattle.protocol_laws.proofs.first.Controls.{controls_in_one_place}
use Rattle.protocol_laws.proofs.laws.controls_are_in_one_place.Goals as goal

pub returns : goal.returns
returns g c = controls_in_one_place
