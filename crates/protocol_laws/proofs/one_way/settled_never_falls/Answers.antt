use Rattle.protocol_laws.proofs.first.OneWay.{settled_never_falls}
use Rattle.protocol_laws.proofs.one_way.settled_never_falls.Goals as goal

pub returns : goal.returns
returns g c = settled_never_falls
