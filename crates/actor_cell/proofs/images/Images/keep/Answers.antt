use Rattle.std.proofs.Common.{List, [], ◌∷◌, ◌++◌, ap, ap₂, ◌∙◌, arith, length-append}
use Rattle.std.specs.Prelude.{is_some}
use Rattle.std.proofs.lemmas.List.{map-append}
use Rattle.snap_base.specs.declared.transactions.State.{State}
use Rattle.protocol.specs.Meant.{who_meant}
use Rattle.protocol.specs.Parts.{Image}
use Rattle.actor_cell.specs.declared.images.Held.{Held}
use Rattle.actor_cell.specs.Keeping.{image_in, state_or_none, IsSlotFree}
use Rattle.actor_cell.proofs.Slots.{slot_is_free, AreApart-frame, AreApart-push, images_of-frame}
use Rattle.actor_cell.proofs.images.Images.keep.Goals as goal

pub invariant_of-self : goal.invariant_of-self
invariant_of-self c =
    let held = c.self.inside.held.items in
    let pool = c.self.inside.pool in
    let taken = c.take-image.ensures in
    let h : Held = record { who = c.args.who; image = c.take-image.result } in
    let free : IsSlotFree c.take-image.result held = slot_is_free pool c.take-image.result held taken.was_spare c.self.invariant.apart in
    let apart = AreApart-frame pool c.take-image.new.self c.take-image.result _ held taken.states free c.self.invariant.apart in
    record {
      apart = rw c.push_reserved.ensures.items (AreApart-push c.take-image.new.self h held apart free (ap is_some taken.states.changed));
      counted = rw c.push_reserved.ensures.items (omega (arith, length-append held (h ∷ []), taken.spare, c.self.invariant.counted));
      room = omega (arith, c.push_reserved.ensures.capacity, c.self.invariant.room);
    }

pub returns : goal.returns
returns c =
    let held = c.self.inside.held.items in
    let pool = c.self.inside.pool in
    let taken = c.take-image.ensures in
    let h : Held = record { who = c.args.who; image = c.take-image.result } in
    let free : IsSlotFree c.take-image.result held = slot_is_free pool c.take-image.result held taken.was_spare c.self.invariant.apart in
    let image_with : State → Image = λ s. record { who = who_meant c.args.who; state = s } in
    let put : List Image → Image → List Image = λ front last. front ++ last ∷ [] in
    rw (c.push_reserved.ensures.items, ← c.self.view_is)
    (map-append (image_in c.take-image.new.self) held (h ∷ [])
    ∙ ap₂ put (images_of-frame pool c.take-image.new.self c.take-image.result _ held taken.states free) (ap image_with (ap state_or_none taken.states.changed)))
