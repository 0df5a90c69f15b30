use Rattle.std.proofs.Common.{◌==◌, ◌&&◌, not, is_some, ap, sym, ◌∙◌}
use Rattle.protocol.specs.Conditions.{conditions, epoch}
use Rattle.protocol.specs.Words.{holds, sub_of}
use Rattle.core_rows.proofs.Rules.{refused, four}
use Rattle.core_rows.proofs.arriving.arrive_refusal.Goals as goal

pub returns : goal.returns
unfolding conditions
returns g c w s r shows = refused w _ s _ _ (four
    (ap (λ p. is_some (sub_of c.args.k.0 c.args.a.0 p.subs)) shows.1 ∙ sym c.has_sub-under_way.ensures)
    (ap not (sym (c.is_aborted-aborted.ensures s.book shows.0)))
    (ap (λ o. holds (λ m. (m.epoch == epoch s.book) && holds (λ x. x.epoch == epoch s.book) o) (sub_of c.args.k.0 c.args.a.0 s.post.subs)) shows.2
    ∙ (ap (λ p. holds (λ m. (m.epoch == epoch s.book) && (c.args.cell.now.cell.epoch == epoch s.book)) (sub_of c.args.k.0 c.args.a.0 p.subs)) shows.1
    ∙ (ap (λ n. holds (λ m. (m.epoch == epoch s.book) && (n == epoch s.book)) (sub_of c.args.k.0 c.args.a.0 c.args.post.now.messages.subs)) (sym c.epoch-seen.ensures)
    ∙ (ap (λ n. holds (λ m. (m.epoch == n) && (c.epoch-seen.result == n)) (sub_of c.args.k.0 c.args.a.0 c.args.post.now.messages.subs)) (sym (c.epoch-epoch.ensures s.book shows.0))
    ∙ sym c.is_of_epoch-of_epoch.ensures))))
    (ap (λ o. holds (λ m. holds (λ x. m.prev == x.tail) o) (sub_of c.args.k.0 c.args.a.0 s.post.subs)) shows.2
    ∙ (ap (λ p. holds (λ m. m.prev == c.args.cell.now.cell.tail) (sub_of c.args.k.0 c.args.a.0 p.subs)) shows.1
    ∙ (ap (λ n. holds (λ m. m.prev == n) (sub_of c.args.k.0 c.args.a.0 c.args.post.now.messages.subs)) (sym c.last_in_epoch-tail.ensures)
    ∙ sym c.is_next_behind-next.ensures)))) c.first_no.ensures
