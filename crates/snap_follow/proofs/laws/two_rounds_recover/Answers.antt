use Rattle.snap_follow.proofs.RecoveredStates.{recovered}
use Rattle.snap_follow.proofs.laws.two_rounds_recover.Goals as goal

pub returns : goal.returns
returns c = recovered
