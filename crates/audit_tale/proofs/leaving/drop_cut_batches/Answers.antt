use Rattle.std.proofs.Common.{rules}
use Rattle.std.proofs.lemmas.Fn.{filter_same}
use Rattle.audit_tale.proofs.leaving.drop_cut_batches.Goals as goal

pub returns : goal.returns
returns c = filter_same _ _ _ (λ x b f k. search rules) _ _ c.retain.ensures.filtered
