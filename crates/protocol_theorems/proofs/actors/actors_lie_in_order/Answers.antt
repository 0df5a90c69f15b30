use Rattle.protocol_theorems.proofs.quiet.LieInOrder.{all_lie}
use Rattle.protocol_theorems.proofs.actors.actors_lie_in_order.Goals as goal

pub returns : goal.returns
returns g c = all_lie
