use Rattle.snap_follow.proofs.OneRefusal.{refused}
use Rattle.snap_follow.proofs.laws.refused_are_no_rounds.Goals as goal

pub returns : goal.returns
returns c = refused
