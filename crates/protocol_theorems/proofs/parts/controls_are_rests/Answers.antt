use Rattle.protocol_theorems.proofs.bounds.RestsInBoxes.{controls_are_rests}
use Rattle.protocol_theorems.proofs.parts.controls_are_rests.Goals as goal

pub returns : goal.returns
returns g c = controls_are_rests
