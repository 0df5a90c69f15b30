use Rattle.std.proofs.Common.{nat_lt, ap, sym, ◌∙◌}
use Rattle.protocol.specs.Conditions.{conditions, epoch}
use Rattle.protocol.specs.Words.{holds}
use Rattle.core_rows.proofs.Rules.{refused, one}
use Rattle.core_rows.proofs.rolling.rollback_refusal.Goals as goal

pub returns : goal.returns
unfolding conditions
returns g c w s r shows = refused w _ s _ _ (one
    (ap (holds (λ x. nat_lt x.epoch (epoch s.book))) shows.1
    ∙ (ap (nat_lt c.args.cell.now.cell.epoch) (sym (c.epoch-epoch.ensures s.book shows.0))
    ∙ sym c.is_behind-behind.ensures))) c.first_no.ensures
