use Rattle.std.proofs.Common.{ap, sym, ◌∙◌}
use Rattle.protocol.specs.Conditions.{conditions}
use Rattle.protocol.specs.Records.{is_commit}
use Rattle.protocol.specs.Words.{holds, is_durable}
use Rattle.batch_table.specs.Askings.{awaits_settling}
use Rattle.core_rows.proofs.Rules.{refused, two}
use Rattle.core_rows.proofs.noting.settle_refusal.Goals as goal

pub returns : goal.returns
unfolding conditions
returns g c w s r shows = refused w _ s _ _ (two
    (ap (λ d. awaits_settling c.args.k.0 d.batches) shows.0 ∙ sym c.is_settling-settling.ensures)
    (ap (holds (is_durable (is_commit c.args.k.0))) shows.1.1.0 ∙ sym (c.has_commit-durable.ensures shows.1.0 shows.1.1.1))) c.first_no.ensures
