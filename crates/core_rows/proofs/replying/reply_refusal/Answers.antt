use Rattle.std.proofs.Common.{is_some, ap, sym, ◌∙◌}
use Rattle.protocol.specs.Conditions.{conditions}
use Rattle.protocol.specs.Verdicts.{verdict}
use Rattle.batch_table.specs.Askings.{awaits_reply}
use Rattle.core_rows.proofs.Rules.{refused, two}
use Rattle.core_rows.proofs.replying.reply_refusal.Goals as goal

pub returns : goal.returns
unfolding conditions
returns g c w s r shows = refused w _ s _ _ (two
    (ap (awaits_reply c.args.n.0) shows.1 ∙ sym c.is_waiting_for_reply-waiting.ensures)
    (ap (λ d. is_some (verdict c.args.n.0 s.book d)) shows.1 ∙ (ap is_some (sym (c.verdict.ensures s.book shows.0)) ∙ sym c.is_some-known.ensures))) c.first_no.ensures
