use Rattle.log_compact.proofs.UsedLogs.{begun_is_set}
use Rattle.log_compact.proofs.set_laws.begun_is_set.Goals as goal

pub returns : goal.returns
returns c = begun_is_set
