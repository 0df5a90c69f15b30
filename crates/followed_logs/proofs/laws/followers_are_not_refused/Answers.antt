use Rattle.followed_logs.proofs.Unrefused.{followers_not_refused}
use Rattle.followed_logs.proofs.laws.followers_are_not_refused.Goals as goal

pub returns : goal.returns
returns g c = followers_not_refused c.followers_go_on_behind_runs.ensures c.records_are_read_once.ensures c.logs_recover_from_greater_numbers.ensures c.begun_logs_are_recovered.ensures c.refused_for_memory_alone.ensures
