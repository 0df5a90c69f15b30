use Rattle.std.proofs.Common.{◌==◌, not, is_some, ap, sym, ◌∙◌}
use Rattle.std.proofs.lemmas.Bool.{and_right}
use Rattle.protocol.specs.Conditions.{conditions, epoch}
use Rattle.protocol.specs.Words.{holds, sub_of}
use Rattle.core_rows.proofs.Rules.{refused, four}
use Rattle.core_rows.proofs.Found.{never}
use Rattle.core_rows.proofs.nowhere.arrive_nowhere.Goals as goal

pub returns : goal.returns
unfolding conditions
returns g c w s r shows = refused w _ s _ _ (four
    (ap (λ p. is_some (sub_of c.args.k.0 c.args.a.0 p.subs)) shows.2 ∙ sym c.has_sub-under_way.ensures)
    (ap not (sym (c.is_aborted-aborted.ensures s.book shows.1)))
    (never _ (sub_of c.args.k.0 c.args.a.0 s.post.subs) (λ m. and_right _ _ (ap (holds (λ x. x.epoch == epoch s.book)) shows.0)))
    (never _ (sub_of c.args.k.0 c.args.a.0 s.post.subs) (λ m. ap (holds (λ x. m.prev == x.tail)) shows.0))) c.first_no.ensures
