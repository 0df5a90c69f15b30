use Rattle.std.proofs.Common.{◌≡◌, ◌≤◌, drop, length}
use Rattle.order_book.specs.Changes.{raised_along}
use Rattle.order_book.proofs.walk.raise_along.Given as goal

abbrev pub invariant-loop-left : goal.invariant-loop-left
invariant-loop-left l = (l.left ≤ length l.walked) × (l.register ≡ raised_along l.pairs (drop l.left l.walked) l.fn.register)

abbrev pub decreases-loop-left : goal.decreases-loop-left
decreases-loop-left l = l.left
