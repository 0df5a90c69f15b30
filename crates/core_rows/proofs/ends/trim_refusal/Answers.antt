use Rattle.std.proofs.Common.{ap, sym, ◌∙◌}
use Rattle.protocol.specs.Conditions.{conditions}
use Rattle.batch_table.specs.Askings.{awaits_trim}
use Rattle.core_rows.proofs.Rules.{refused, one}
use Rattle.core_rows.proofs.ends.trim_refusal.Goals as goal

pub returns : goal.returns
unfolding conditions
returns g c w s r shows = refused w _ s _ _ (one
    (ap (λ d. awaits_trim c.args.k.0 c.args.a.0 d.batches) shows ∙ sym c.is_trimming-settled.ensures)) c.first_no.ensures
