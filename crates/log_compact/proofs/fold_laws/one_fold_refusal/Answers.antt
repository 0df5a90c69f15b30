use Rattle.log_compact.proofs.FoldRefusals.{one_fold_refusal}
use Rattle.log_compact.proofs.fold_laws.one_fold_refusal.Goals as goal

pub returns : goal.returns
returns c = one_fold_refusal c.one_refusal.ensures
