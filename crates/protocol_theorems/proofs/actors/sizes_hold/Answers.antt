use Rattle.protocol_theorems.proofs.quiet.SizesHold.{sizes_hold}
use Rattle.protocol_theorems.proofs.actors.sizes_hold.Goals as goal

pub returns : goal.returns
returns g c = sizes_hold
