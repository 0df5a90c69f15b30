use Rattle.protocol_runs.proofs.WorkedRuns.{cascades_play}
use Rattle.protocol_runs.proofs.examples.cascades_play.Goals as goal

pub returns : goal.returns
returns c = cascades_play
