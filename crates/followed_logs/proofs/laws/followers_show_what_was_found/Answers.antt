use Rattle.followed_logs.proofs.Shown.{seen_is_shown}
use Rattle.followed_logs.proofs.laws.followers_show_what_was_found.Goals as goal

pub returns : goal.returns
returns g c = seen_is_shown c.what_was_seen_is_shown_behind_runs.ensures
