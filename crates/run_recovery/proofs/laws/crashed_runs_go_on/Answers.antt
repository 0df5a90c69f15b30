use Rattle.run_recovery.proofs.NextRuns.{goes_on}
use Rattle.run_recovery.proofs.laws.crashed_runs_go_on.Goals as goal

pub returns : goal.returns
returns c = goes_on c.begins_again.ensures.written c.one_fold.ensures
