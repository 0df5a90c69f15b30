use Rattle.followed_runs.proofs.RunsSerial.{runs_followed}
use Rattle.followed_runs.proofs.laws.followers_go_on_behind_runs.Goals as goal

pub returns : goal.returns
returns g c = runs_followed
