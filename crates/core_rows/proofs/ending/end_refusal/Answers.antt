use Rattle.std.proofs.Common.{ap, sym, ◌∙◌}
use Rattle.protocol.specs.Words.{holds, outcome_of, is_ended}
use Rattle.protocol.specs.Conditions.{conditions}
use Rattle.core_rows.proofs.Rules.{refused, one}
use Rattle.core_rows.proofs.ending.end_refusal.Goals as goal

pub returns : goal.returns
unfolding conditions
returns g c w s r shows = refused w _ s _ _ (one
    (ap (holds (λ x. holds (λ y. is_ended y.next) (outcome_of c.args.t.0 x.outbox))) shows ∙ sym c.has_ended-ended.ensures)) c.first_no.ensures
