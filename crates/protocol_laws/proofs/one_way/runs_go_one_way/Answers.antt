use Rattle.protocol_laws.proofs.first.OneWay.{all_went_on}
use Rattle.protocol_laws.proofs.one_way.runs_go_one_way.Goals as goal

pub returns : goal.returns
returns g c = all_went_on
