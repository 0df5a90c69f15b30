use Rattle.std.proofs.Common.{◌==◌, ◌&&◌, nat_lt, length, ap, sym, ◌∙◌}
use Rattle.protocol.specs.Conditions.{conditions}
use Rattle.core_rows.proofs.Rules.{refused, one}
use Rattle.core_rows.proofs.submitting.submit_refusal.Goals as goal

pub returns : goal.returns
unfolding conditions
returns g c w s r shows = refused w _ s _ _ (one
    (ap (λ x. (c.args.n.0 == x.next_tx) && nat_lt c.args.n.0 (length w.text.txs)) shows.1
    ∙ (ap (λ xs. (c.args.n.0 == c.args.ring.now.next_tx) && nat_lt c.args.n.0 (length xs)) shows.0
    ∙ sym c.is_next-next.ensures))) c.first_no.ensures
