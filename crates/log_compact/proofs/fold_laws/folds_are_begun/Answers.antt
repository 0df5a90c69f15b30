use Rattle.log_compact.proofs.Begun.{folds_are_begun}
use Rattle.log_compact.proofs.fold_laws.folds_are_begun.Goals as goal

pub returns : goal.returns
returns c = folds_are_begun
