use Rattle.log_compact.proofs.Begun.{begun_lists_fold}
use Rattle.log_compact.proofs.fold_laws.begun_lists_fold.Goals as goal

pub returns : goal.returns
returns c = begun_lists_fold c.begun_logs_are_recovered.ensures
