use Rattle.std.proofs.Common.{ap, sym, ◌∙◌}
use Rattle.protocol.specs.Conditions.{conditions}
use Rattle.batch_table.specs.Askings.{is_next_open, has_failed_pact}
use Rattle.core_rows.proofs.Rules.{refused, two}
use Rattle.core_rows.proofs.aborting.abort_refusal.Goals as goal

pub returns : goal.returns
unfolding conditions
returns g c w s r shows = refused w _ s _ _ (two
    (ap (λ d. is_next_open c.args.k.0 d.batches) shows ∙ sym c.is_next-next.ensures)
    (ap (λ d. has_failed_pact c.args.k.0 d.batches) shows ∙ (sym c.first_failed.ensures.some ∙ sym c.is_some-failed.ensures))) c.first_no.ensures
