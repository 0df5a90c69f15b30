use Rattle.protocol_runs.proofs.WorkedRuns.{crowd_plays, crowd_is_drawn}
use Rattle.protocol_runs.proofs.examples.crowd_plays.Goals as goal

pub returns : goal.returns
returns c = record { told = crowd_plays; drawn = crowd_is_drawn }
