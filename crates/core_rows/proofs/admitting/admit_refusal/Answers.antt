use Rattle.std.proofs.Common.{◌==◌, nat_lt, not, ap, sym, ◌∙◌}
use Rattle.protocol.specs.Words.{is_empty}
use Rattle.protocol.specs.Conditions.{conditions, queue}
use Rattle.core_rows.proofs.Rules.{refused, three}
use Rattle.core_rows.proofs.admitting.admit_refusal.Goals as goal

pub returns : goal.returns
unfolding conditions
returns g c w s r shows = refused w _ s _ _ (three
    (ap (λ x. c.args.t.0 == x.next_tid) shows.1 ∙ ap (λ n. c.args.t.0 == n) (sym c.next_tid-next.ensures))
    (ap (λ x. not (is_empty (queue x.acts x.holder))) shows.1 ∙ sym c.has_act-waits.ensures)
    (ap (λ n. nat_lt n w.text.acts) (sym (c.live-live.ensures s.book shows.2)) ∙ ap (nat_lt c.live-live.result) shows.0)) c.first_no.ensures
