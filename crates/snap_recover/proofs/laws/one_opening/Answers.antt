use Rattle.snap_recover.proofs.OneOpening.{one_opening}
use Rattle.snap_recover.proofs.laws.one_opening.Goals as goal

pub returns : goal.returns
returns c = one_opening
