use Rattle.snap_recover.proofs.OneRefusal.{refused_is_not_recovered}
use Rattle.snap_recover.proofs.laws.refused_is_not_recovered.Goals as goal

pub returns : goal.returns
returns c = refused_is_not_recovered
