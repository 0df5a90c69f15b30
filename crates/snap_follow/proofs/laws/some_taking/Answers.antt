use Rattle.snap_follow.proofs.Taking.{some_taking}
use Rattle.snap_follow.proofs.laws.some_taking.Goals as goal

pub returns : goal.returns
returns c = some_taking
