use Rattle.followed_bytes.proofs.Alone.{first_alone}
use Rattle.followed_bytes.proofs.laws.first_runs_are_alone.Goals as goal

pub returns : goal.returns
returns c = first_alone
