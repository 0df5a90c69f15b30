use Rattle.snap_recover.proofs.BegunLogs.{begun_logs_are_recovered}
use Rattle.snap_recover.proofs.laws.begun_logs_are_recovered.Goals as goal

pub returns : goal.returns
returns c = begun_logs_are_recovered
