use Rattle.std.proofs.Common.{◌<◌, length, ap, arith}
use Rattle.std.proofs.lemmas.List.{length-map}
use Rattle.std.proofs.lemmas.List.Edits.{length-remove}
use Rattle.actor_cell.specs.Keeping.{image_in}
use Rattle.actor_cell.proofs.Slots.{live_at, AreApart-remove, images_of-remove}
use Rattle.actor_cell.proofs.images.Images.take_out.Goals as goal

pub put_back-requires : goal.put_back-requires
put_back-requires c =
    let held = c.self.inside.held.items in
    let within : c.args.at < length held = omega (arith, length-map held (image_in c.self.inside.pool), ap length c.self.view_is) in
    live_at c.self.inside.pool held c.args.at c.remove-image.result within c.remove-image.ensures.value c.self.invariant.apart

pub invariant_of-self : goal.invariant_of-self
invariant_of-self c =
    let held = c.self.inside.held.items in
    let within : c.args.at < length held = omega (arith, length-map held (image_in c.self.inside.pool), ap length c.self.view_is) in
    record {
      apart = rw c.remove-image.ensures.items (AreApart-remove c.self.inside.pool _ _ held c.args.at c.remove-image.result within c.remove-image.ensures.value c.put_back.ensures.states c.self.invariant.apart);
      counted = rw c.remove-image.ensures.items (omega (arith, length-remove held c.args.at within, c.put_back.ensures.spare, c.self.invariant.counted));
      room = omega (arith, c.remove-image.ensures.capacity, c.self.invariant.room);
    }

pub returns-clause-images : goal.returns-clause-images
returns-clause-images c =
    let held = c.self.inside.held.items in
    let within : c.args.at < length held = omega (arith, length-map held (image_in c.self.inside.pool), ap length c.self.view_is) in
    rw (c.remove-image.ensures.items, ← c.self.view_is) (images_of-remove c.self.inside.pool _ _ held c.args.at c.remove-image.result within c.remove-image.ensures.value c.put_back.ensures.states c.self.invariant.apart)
