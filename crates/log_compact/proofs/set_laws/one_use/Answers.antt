use Rattle.log_compact.proofs.UsedLogs.{one_use}
use Rattle.log_compact.proofs.set_laws.one_use.Goals as goal

pub returns : goal.returns
returns c = one_use c.one_set.ensures
