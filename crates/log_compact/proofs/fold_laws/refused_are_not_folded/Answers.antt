use Rattle.log_compact.proofs.FoldRefusals.{refused_are_not_folded}
use Rattle.log_compact.proofs.fold_laws.refused_are_not_folded.Goals as goal

pub returns : goal.returns
returns c = refused_are_not_folded c.refused_is_not_recovered.ensures
