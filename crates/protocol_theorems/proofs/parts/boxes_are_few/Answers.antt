use Rattle.protocol_theorems.proofs.bounds.Boxes.{boxes_are_few}
use Rattle.protocol_theorems.proofs.parts.boxes_are_few.Goals as goal

pub returns : goal.returns
returns g c = boxes_are_few
