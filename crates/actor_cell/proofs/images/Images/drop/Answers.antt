use Rattle.actor_cell.proofs.Slots.{last_apart, AreApart-frame}
use Rattle.actor_cell.proofs.images.Images.drop.Goals as goal

pub put_back-requires : goal.put_back-requires
put_back-requires c = (last_apart c.loop-image.pool c.in-Some.field-0 c.pop.new.self.items (rw c.in-Some.ensures.items at c.loop-image.invariant)).0

pub loop-image-preserved : goal.loop-image-preserved
loop-image-preserved c =
    let apart = last_apart c.loop-image.pool c.in-Some.field-0 c.pop.new.self.items (rw c.in-Some.ensures.items at c.loop-image.invariant) in
    AreApart-frame c.loop-image.pool c.put_back.new.self c.in-Some.field-0.image _ c.pop.new.self.items c.put_back.ensures.states apart.1.0 apart.1.1
