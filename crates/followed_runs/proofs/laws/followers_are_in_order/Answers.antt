use Rattle.followed_runs.proofs.RoundsStand.{followers_hold}
use Rattle.followed_runs.proofs.laws.followers_are_in_order.Goals as goal

pub returns : goal.returns
returns g c = followers_hold
