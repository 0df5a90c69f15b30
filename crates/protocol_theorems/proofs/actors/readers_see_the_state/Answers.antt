use Rattle.protocol_theorems.proofs.quiet.LieInOrder.{all_see}
use Rattle.protocol_theorems.proofs.actors.readers_see_the_state.Goals as goal

pub returns : goal.returns
returns g c = all_see
