use Rattle.protocol_records.proofs.recording.SeveralRunsStand.{runs_stand}
use Rattle.protocol_records.proofs.runs.several_runs_stand.Goals as goal

pub returns : goal.returns
returns g c = runs_stand
