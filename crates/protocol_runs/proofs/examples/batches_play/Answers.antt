use Rattle.protocol_runs.proofs.WorkedRuns.{batches_play}
use Rattle.protocol_runs.proofs.examples.batches_play.Goals as goal

pub returns : goal.returns
returns c = batches_play
