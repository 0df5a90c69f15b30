use Rattle.snap_follow.proofs.OneRound.{one_round}
use Rattle.snap_follow.proofs.laws.one_round.Goals as goal

pub returns : goal.returns
returns c = one_round
