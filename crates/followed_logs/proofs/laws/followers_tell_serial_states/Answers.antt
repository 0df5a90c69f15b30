use Rattle.followed_logs.proofs.Rounds.{followers_tell}
use Rattle.followed_logs.proofs.laws.followers_tell_serial_states.Goals as goal

pub returns : goal.returns
returns g c = followers_tell c.followers_go_on_behind_runs.ensures
