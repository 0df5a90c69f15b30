use Rattle.std.proofs.Common.{max, nat_le, ap, sym, ◌∙◌}
use Rattle.protocol.specs.Fixed.{base}
use Rattle.protocol.specs.Words.{holds, act_of}
use Rattle.protocol.specs.Conditions.{conditions}
use Rattle.core_rows.proofs.Rules.{refused, three}
use Rattle.core_rows.proofs.deciding.decide_refusal.Goals as goal

pub returns : goal.returns
unfolding conditions
returns g c w s r shows = refused w _ s _ _ (three
    (sym (c.is_to_decide-to_decide.ensures s.book shows.1))
    (sym (c.is_ready-ready.ensures s.book shows.1))
    (ap (λ n. holds (λ x. nat_le x.m n) (act_of c.args.t.0 s.book.acts))
    (ap (λ d. max d.settled (base w.text)) shows.2 ∙ (ap (λ n. max n (base w.text)) (sym c.settled.ensures) ∙ (ap (max c.settled.result.0) shows.0 ∙ sym c.later-settled.ensures)))
    ∙ sym (c.is_behind-behind.ensures s.book shows.1))) c.first_no.ensures
