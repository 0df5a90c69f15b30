use Rattle.crew_recovery.proofs.StepsRecovered.{on_logs}
use Rattle.crew_recovery.proofs.laws.crews_runs_are_on_their_logs.Goals as goal

pub returns : goal.returns
returns c r t start acts end begins many on = on_logs r t start acts end begins many on
