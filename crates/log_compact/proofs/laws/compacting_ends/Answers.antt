use Rattle.log_compact.proofs.Moments.{compacting_ends}
use Rattle.log_compact.proofs.laws.compacting_ends.Goals as goal

pub returns : goal.returns
returns c = compacting_ends
