use Rattle.followed_runs.proofs.SeenShown.{seen_is_shown}
use Rattle.followed_runs.proofs.TwoCalls.{second_knows_more}
use Rattle.followed_runs.proofs.laws.later_calls_know_more.Goals as goal

pub returns : goal.returns
returns g c = second_knows_more seen_is_shown
