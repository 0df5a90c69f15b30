use Rattle.std.proofs.Common.{◌==◌, not, ap, sym, ◌∙◌}
use Rattle.protocol.specs.Conditions.{conditions, epoch}
use Rattle.protocol.specs.Words.{holds, has_act, has_control_to}
use Rattle.core_rows.proofs.Rules.{refused, four}
use Rattle.core_rows.proofs.nowhere.ask_nowhere.Goals as goal

pub returns : goal.returns
unfolding conditions
returns g c w s r shows = refused w _ s _ _ (four
    (ap (λ p. has_control_to c.args.t.0 c.args.a.0 p.controls) shows.2 ∙ sym c.goes_to-under_way.ensures)
    (sym (c.is_undoomed-undoomed.ensures s.book shows.1))
    (ap (holds (λ x. not (has_act c.args.t.0 x.entries))) shows.0)
    (ap (holds (λ x. x.epoch == epoch s.book)) shows.0)) c.first_no.ensures
