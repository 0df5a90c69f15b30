use Rattle.protocol_runs.proofs.WorkedRuns.{paths_play}
use Rattle.protocol_runs.proofs.examples.paths_play.Goals as goal

pub returns : goal.returns
returns c = paths_play
