use Rattle.followed_logs.proofs.Shown.{seen_is_shown}
use Rattle.followed_logs.proofs.TwoCalls.{second_knows_more}
use Rattle.followed_logs.proofs.laws.followers_know_more_later.Goals as goal

pub returns : goal.returns
returns g c = second_knows_more (seen_is_shown c.what_was_seen_is_shown_behind_runs.ensures)
