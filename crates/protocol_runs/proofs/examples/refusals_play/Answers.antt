use Rattle.protocol_runs.proofs.WorkedRuns.{refusals_play}
use Rattle.protocol_runs.proofs.examples.refusals_play.Goals as goal

pub returns : goal.returns
returns c = refusals_play
