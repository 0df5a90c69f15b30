use Rattle.std.proofs.Common.{is_some, ap, sym, ◌∙◌}
use Rattle.protocol.specs.Conditions.{conditions}
use Rattle.protocol.specs.Words.{sub_of}
use Rattle.core_rows.proofs.Rules.{refused, two}
use Rattle.core_rows.proofs.messages.drop_sub_refusal.Goals as goal

pub returns : goal.returns
unfolding conditions
returns g c w s r shows = refused w _ s _ _ (two
    (ap (λ p. is_some (sub_of c.args.k.0 c.args.a.0 p.subs)) shows.1 ∙ sym c.has_sub-under_way.ensures)
    (sym (c.is_aborted-aborted.ensures s.book shows.0))) c.first_no.ensures
