use Rattle.std.proofs.Common.{length}
use Rattle.actor_cell.specs.Keeping.{AreApart}
use Rattle.actor_cell.proofs.images.Images.drop.Given as goal

-- those that are left are images of the pool
abbrev pub invariant-loop-image : goal.invariant-loop-image
invariant-loop-image l = AreApart l.pool l.held.items

abbrev pub decreases-loop-image : goal.decreases-loop-image
decreases-loop-image l = length l.held.items
