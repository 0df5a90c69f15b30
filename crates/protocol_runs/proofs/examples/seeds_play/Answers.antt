use Rattle.protocol_runs.proofs.WorkedRuns.{seeds_play}
use Rattle.protocol_runs.proofs.examples.seeds_play.Goals as goal

pub returns : goal.returns
returns c = seeds_play
