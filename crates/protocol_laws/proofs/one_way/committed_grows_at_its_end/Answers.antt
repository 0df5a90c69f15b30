use Rattle.protocol_laws.proofs.first.OneWay.{committed_went}
use Rattle.protocol_laws.proofs.one_way.committed_grows_at_its_end.Goals as goal

pub returns : goal.returns
returns g c = committed_went
