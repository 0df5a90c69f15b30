use Rattle.protocol_theorems.proofs.quiet.LimitsOnActors.{limits_hold}
use Rattle.protocol_theorems.proofs.actors.limits_hold.Goals as goal

pub returns : goal.returns
returns g c = limits_hold
