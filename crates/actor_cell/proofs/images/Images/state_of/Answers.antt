use Rattle.std.proofs.Common.{Bool, Option, Bor, sym, ap, ◌∙◌}
use Rattle.std.specs.Prelude.{option_map, option_copied}
use Rattle.std.specs.List.{find}
use Rattle.protocol.specs.Meant.{who_meant}
use Rattle.protocol.specs.OnCell.{state_from}
use Rattle.protocol.specs.Parts.{Image}
use Rattle.protocol.specs.Words.{is_who}
use Rattle.actor_cell.specs.declared.images.Held.{Held}
use Rattle.actor_cell.specs.Keeping.{image_in, state_or_none}
use Rattle.actor_cell.proofs.Slots.{found_is_live, image_of-found}
use Rattle.actor_cell.proofs.images.Images.state_of.Goals as goal

pub state-requires : goal.state-requires
state-requires c =
    let meant : Held → Bool = λ h. is_who (who_meant c.args.who) (who_meant h.who) in
    let found = c.first_meant.ensures ∙ ap (find meant) c.deref.ensures.value in
    found_is_live meant c.self.inside.pool c.self.inside.held.items c.in-Some.held.now (sym found ∙ ap option_copied c.in-Some.is) c.self.invariant.apart

pub returns-in-Some : goal.returns-in-Some
returns-in-Some c =
    let who = who_meant c.args.who in
    let pool = c.self.inside.pool in
    let meant : Held → Bool = λ h. is_who who (who_meant h.who) in
    let told : Option (Bor Held) → Option Image = λ o. option_map (image_in pool) (option_copied o) in
    let found = c.first_meant.ensures ∙ ap (find meant) c.deref.ensures.value in
    let image = image_of-found who pool _ _ c.first_meant.result found c.self.view_is ∙ ap told c.in-Some.is in
    sym (ap (state_from c.args.state) image ∙ ap state_or_none c.state.ensures)

pub returns-in-None : goal.returns-in-None
returns-in-None c =
    let who = who_meant c.args.who in
    let pool = c.self.inside.pool in
    let meant : Held → Bool = λ h. is_who who (who_meant h.who) in
    let told : Option (Bor Held) → Option Image = λ o. option_map (image_in pool) (option_copied o) in
    let found = c.first_meant.ensures ∙ ap (find meant) c.deref.ensures.value in
    sym (ap (state_from c.args.state) (image_of-found who pool _ _ c.first_meant.result found c.self.view_is ∙ ap told c.in-None.is))
