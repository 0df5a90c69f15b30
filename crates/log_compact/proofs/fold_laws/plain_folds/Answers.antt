use Rattle.log_compact.proofs.PlainFolds.{plain_folds}
use Rattle.log_compact.proofs.fold_laws.plain_folds.Goals as goal

pub returns : goal.returns
returns c = plain_folds
