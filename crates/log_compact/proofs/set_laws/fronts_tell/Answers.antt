use Rattle.log_compact.proofs.UsedLogs.{fronts_tell}
use Rattle.log_compact.proofs.set_laws.fronts_tell.Goals as goal

pub returns : goal.returns
returns c = fronts_tell
