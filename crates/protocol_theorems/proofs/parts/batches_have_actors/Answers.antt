use Rattle.protocol_theorems.proofs.bounds.Boxes.{batches_have_actors}
use Rattle.protocol_theorems.proofs.parts.batches_have_actors.Goals as goal

pub returns : goal.returns
returns g c = batches_have_actors
