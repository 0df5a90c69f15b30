use Rattle.std.proofs.Common.{ap, sym, ◌∙◌}
use Rattle.protocol.specs.Conditions.{conditions}
use Rattle.protocol.specs.Records.{is_info}
use Rattle.protocol.specs.Words.{holds, is_durable}
use Rattle.batch_table.specs.Askings.{is_next_open, has_ended_well, is_noted_everywhere}
use Rattle.core_rows.proofs.Rules.{refused, four}
use Rattle.core_rows.proofs.logs.commit_refusal.Goals as goal

pub returns : goal.returns
unfolding conditions
returns g c w s r shows = refused w _ s _ _ (four
    (ap (λ d. is_next_open c.args.k.0 d.batches) shows.0 ∙ sym c.is_next-next.ensures)
    (ap (λ d. has_ended_well c.args.k.0 d.batches) shows.0 ∙ sym c.all_ended_well-ended.ensures)
    (ap (λ d. is_noted_everywhere c.args.k.0 d.batches) shows.0 ∙ sym c.all_noted-noted.ensures)
    (ap (holds (is_durable (is_info c.args.k.0))) shows.1.1.0 ∙ sym (c.has_info-durable.ensures shows.1.0 shows.1.1.1))) c.first_no.ensures
