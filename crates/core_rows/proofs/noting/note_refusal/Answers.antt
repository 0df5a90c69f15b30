use Rattle.std.proofs.Common.{ap, sym, ◌∙◌}
use Rattle.protocol.specs.Conditions.{conditions}
use Rattle.protocol.specs.Records.{is_complete}
use Rattle.protocol.specs.Words.{holds, is_durable}
use Rattle.batch_table.specs.Askings.{awaits_note}
use Rattle.core_rows.proofs.Rules.{refused, two}
use Rattle.core_rows.proofs.noting.note_refusal.Goals as goal

pub returns : goal.returns
unfolding conditions
returns g c w s r shows = refused w _ s _ _ (two
    (ap (λ d. awaits_note c.args.k.0 c.args.a.0 d.batches) shows.0 ∙ sym c.is_noting-noting.ensures)
    (ap (holds (is_durable (is_complete c.args.k.0 c.args.a.0))) shows.1.1.0 ∙ sym (c.has_complete-durable.ensures shows.1.0 shows.1.1.1))) c.first_no.ensures
