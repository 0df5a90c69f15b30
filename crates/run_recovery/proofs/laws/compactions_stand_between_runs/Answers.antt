use Rattle.run_recovery.proofs.CompactionKept.{between_runs}
use Rattle.run_recovery.proofs.laws.compactions_stand_between_runs.Goals as goal

pub returns : goal.returns
returns c = between_runs
