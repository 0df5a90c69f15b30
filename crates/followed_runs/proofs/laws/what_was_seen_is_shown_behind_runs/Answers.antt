use Rattle.followed_runs.proofs.RunsShown.{seen_is_shown_behind}
use Rattle.followed_runs.proofs.laws.what_was_seen_is_shown_behind_runs.Goals as goal

pub returns : goal.returns
returns g c = seen_is_shown_behind
