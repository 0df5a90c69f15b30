use Rattle.std.proofs.Common.{◌≡◌, ◌==◌, ◌+◌, ◌%◌, ap, not, length, sym, ◌∙◌}
use Rattle.protocol.specs.Conditions.{conditions, is_idle_at, is_idle}
use Rattle.core_rows.proofs.Rules.{refused, three}
use Rattle.core_rows.proofs.ring.pass_refusal.Goals as goal

pub returns : goal.returns
unfolding conditions
returns g c w s r shows =
    let holder : s.ring.holder ≡ c.holder.result = ap (λ x. x.holder) shows ∙ sym c.holder.ensures.value in
    let count : w.text.coordinators ≡ c.coordinators-count.result = sym (c.rows_may.ensures w s r).pact_queues ∙ (ap (λ x. length x.pacts) shows ∙ sym c.coordinators-count.ensures.pacts) in
    refused w _ s _ _ (three
    (ap (λ n. c.args.c == (n + 1) % w.text.coordinators) holder ∙ ap (λ n. c.args.c == (c.holder.result + 1) % n) count)
    (ap (λ x. is_idle_at x.holder x) shows ∙ sym c.is_holder_idle-idle_here.ensures)
    (ap (λ x. not (is_idle x)) shows ∙ ap not (sym c.is_idle-idle.ensures))) c.first_no.ensures
