use Rattle.followed_runs.proofs.RunsShown.{calls_know_more_behind}
use Rattle.followed_runs.proofs.laws.later_calls_know_more_behind_runs.Goals as goal

pub returns : goal.returns
returns g c = calls_know_more_behind
