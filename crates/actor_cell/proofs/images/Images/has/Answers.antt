use Rattle.std.proofs.Common.{sym, ap, ◌∙◌}
use Rattle.std.specs.Prelude.{is_some}
use Rattle.std.specs.List.{find}
use Rattle.protocol.specs.Meant.{who_meant}
use Rattle.protocol.specs.Words.{is_who}
use Rattle.actor_cell.proofs.Slots.{image_of-found, is_some-found}
use Rattle.actor_cell.proofs.images.Images.has.Goals as goal

pub returns : goal.returns
returns c =
    let who = who_meant c.args.who in
    let pool = c.self.inside.pool in
    let found = c.first_meant.ensures ∙ ap (find (λ h. is_who who (who_meant h.who))) c.deref.ensures.value in
    c.is_some.ensures
    ∙ sym (is_some-found pool c.first_meant.result)
    ∙ sym (ap is_some (image_of-found who pool _ _ c.first_meant.result found c.self.view_is))
