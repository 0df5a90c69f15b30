use Rattle.protocol_runs.proofs.WorkedRuns.{acts_play}
use Rattle.protocol_runs.proofs.examples.acts_play.Goals as goal

pub returns : goal.returns
returns c = acts_play
