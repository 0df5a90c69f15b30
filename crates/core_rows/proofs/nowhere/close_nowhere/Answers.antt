use Rattle.std.proofs.Common.{is_some, ap, sym, ◌∙◌}
use Rattle.protocol.specs.Conditions.{conditions}
use Rattle.protocol.specs.Words.{holds, has_undone, pact_result}
use Rattle.core_rows.proofs.Rules.{refused, two}
use Rattle.core_rows.proofs.nowhere.close_nowhere.Goals as goal

pub returns : goal.returns
unfolding conditions
returns g c w s r shows = refused w _ s _ _ (two
    (ap (λ d. is_some (pact_result c.args.t.0 d.batches)) shows.1 ∙ (ap is_some (sym c.result.ensures) ∙ sym c.is_some-ended.ensures))
    (ap (holds (λ x. has_undone c.args.t.0 x.entries)) shows.0)) c.first_no.ensures
