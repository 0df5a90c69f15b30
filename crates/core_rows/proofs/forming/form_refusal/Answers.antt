use Rattle.std.proofs.Common.{◌==◌, nat_lt, not, ap, sym, ◌∙◌}
use Rattle.protocol.specs.Words.{count, is_empty, is_live_batch}
use Rattle.protocol.specs.Conditions.{conditions, queue}
use Rattle.core_rows.proofs.Rules.{refused, three}
use Rattle.core_rows.proofs.forming.form_refusal.Goals as goal

pub returns : goal.returns
unfolding conditions
returns g c w s r shows = refused w _ s _ _ (three
    (ap (λ x. c.args.k.0 == x.next_bid) shows.1 ∙ ap (λ n. c.args.k.0 == n) (sym c.next_bid-next.ensures))
    (ap (λ x. not (is_empty (queue x.pacts x.holder))) shows.1 ∙ sym c.has_pact-waits.ensures)
    (ap (λ d. nat_lt (count is_live_batch d.batches) w.text.batches) shows.2
    ∙ (ap (λ n. nat_lt n w.text.batches) (sym c.live-live.ensures) ∙ ap (nat_lt c.live-live.result) shows.0))) c.first_no.ensures
