use Rattle.snap_follow.proofs.OneRefusal.{memory_alone}
use Rattle.snap_follow.proofs.laws.refused_for_memory_alone.Goals as goal

pub returns : goal.returns
returns c = memory_alone
