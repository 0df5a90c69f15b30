use Rattle.followed_runs.proofs.SeenShown.{seen_is_shown}
use Rattle.followed_runs.proofs.laws.what_was_seen_is_shown.Goals as goal

pub returns : goal.returns
returns g c = seen_is_shown
