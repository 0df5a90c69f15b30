use Rattle.followed_bytes.proofs.Alone.{bare_alone}
use Rattle.followed_bytes.proofs.laws.runs_behind_checkpoints_are_alone.Goals as goal

pub returns : goal.returns
returns c = bare_alone c.begun_logs_are_recovered.ensures c.one_opening.ensures
