use Rattle.log_compact.proofs.Begun.{plain_lists_fold}
use Rattle.log_compact.proofs.fold_laws.plain_lists_fold.Goals as goal

pub returns : goal.returns
returns c = plain_lists_fold
