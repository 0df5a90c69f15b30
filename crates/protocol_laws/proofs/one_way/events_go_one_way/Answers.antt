use Rattle.protocol_laws.proofs.first.OneWay.{went_on}
use Rattle.protocol_laws.proofs.one_way.events_go_one_way.Goals as goal

pub returns : goal.returns
returns g c = went_on
