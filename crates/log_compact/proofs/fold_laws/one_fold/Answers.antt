use Rattle.log_compact.proofs.OneSet.{one_fold}
use Rattle.log_compact.proofs.fold_laws.one_fold.Goals as goal

pub returns : goal.returns
returns c = one_fold c.one_opening.ensures
