use Rattle.std.proofs.Common.{ap, sym, ◌∙◌}
use Rattle.protocol.specs.Conditions.{conditions}
use Rattle.protocol.specs.Words.{holds, is_going, outcome_of}
use Rattle.core_rows.proofs.Rules.{refused, one}
use Rattle.core_rows.proofs.sending.send_refusal.Goals as goal

pub returns : goal.returns
unfolding conditions
returns g c w s r shows = refused w _ s _ _ (one
    (ap (holds (λ x. holds (λ y. is_going y.next) (outcome_of c.args.t.0 x.outbox))) shows ∙ sym c.has_going-going.ensures)) c.first_no.ensures
