use Rattle.protocol_runs.proofs.WorkedRuns.{rules_play}
use Rattle.protocol_runs.proofs.examples.rules_play.Goals as goal

pub returns : goal.returns
returns c = rules_play
