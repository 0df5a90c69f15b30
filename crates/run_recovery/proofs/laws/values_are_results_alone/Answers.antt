use Rattle.run_recovery.proofs.SeveralRuns.{values_stand}
use Rattle.run_recovery.proofs.laws.values_are_results_alone.Goals as goal

pub returns : goal.returns
returns c = values_stand
