use Rattle.protocol_laws.proofs.first.Leaves.{has_logs}
use Rattle.protocol_laws.proofs.laws.logs_stay.Goals as goal

pub returns : goal.returns
returns g c = has_logs
