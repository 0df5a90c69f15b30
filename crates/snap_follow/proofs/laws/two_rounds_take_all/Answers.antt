use Rattle.snap_follow.proofs.TwoRounds.{two_rounds}
use Rattle.snap_follow.proofs.laws.two_rounds_take_all.Goals as goal

pub returns : goal.returns
returns c = two_rounds
