use Rattle.std.proofs.Common.{rules}
use Rattle.std.specs.Prelude.{slice_get}
use Rattle.std.proofs.lemmas.Fn.{filter_same}
use Rattle.protocol.specs.Words.{holds}
use Rattle.audit_tale.specs.Touching.{lives}
use Rattle.audit_tale.proofs.aborting.keep_going.Goals as goal

pub returns : goal.returns
returns c = filter_same _ (λ i. holds lives (slice_get c.args.acts.now i)) _ (λ x b f' k. search rules) _ _ c.retain.ensures.filtered
