use Rattle.snap_follow.proofs.Taking.{one_taking}
use Rattle.snap_follow.proofs.laws.one_taking.Goals as goal

pub returns : goal.returns
returns c = one_taking
