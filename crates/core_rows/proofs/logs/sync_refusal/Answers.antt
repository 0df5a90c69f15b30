use Rattle.std.proofs.Common.{nat_lt, length, ap, sym, ◌∙◌}
use Rattle.protocol.specs.Conditions.{conditions}
use Rattle.protocol.specs.Words.{holds}
use Rattle.core_rows.proofs.Rules.{refused, one}
use Rattle.core_rows.proofs.logs.sync_refusal.Goals as goal

pub returns : goal.returns
unfolding conditions
returns g c w s r shows = refused w _ s _ _ (one
    (ap (holds (λ x. nat_lt x.synced (length x.records))) shows.1.0 ∙ sym (c.has_waiting-waiting.ensures shows.0 shows.1.1))) c.first_no.ensures
