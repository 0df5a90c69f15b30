use Rattle.followed_runs.proofs.ReadOnce.{records_once}
use Rattle.followed_runs.proofs.laws.records_are_read_once.Goals as goal

pub returns : goal.returns
returns g c = records_once
