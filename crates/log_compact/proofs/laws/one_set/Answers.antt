use Rattle.log_compact.proofs.OneSet.{one_set}
use Rattle.log_compact.proofs.laws.one_set.Goals as goal

pub returns : goal.returns
returns c = one_set
