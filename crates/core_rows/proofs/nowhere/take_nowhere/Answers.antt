use Rattle.std.proofs.Common.{ap, sym, ◌∙◌}
use Rattle.protocol.specs.Conditions.{conditions}
use Rattle.protocol.specs.Words.{holds, has_entry, has_control_to}
use Rattle.core_rows.proofs.Rules.{refused, two}
use Rattle.core_rows.proofs.nowhere.take_nowhere.Goals as goal

pub returns : goal.returns
unfolding conditions
returns g c w s r shows = refused w _ s _ _ (two
    (ap (λ p. has_control_to c.args.t.0 c.args.a.0 p.controls) shows.1 ∙ sym c.goes_to-under_way.ensures)
    (ap (holds (λ x. has_entry c.args.t.0 x.entries)) shows.0)) c.first_no.ensures
