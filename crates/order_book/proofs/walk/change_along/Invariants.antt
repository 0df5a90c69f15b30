use Rattle.std.proofs.Common.{◌≡◌, drop}
use Rattle.order_book.specs.Changes.{changed_along, changed_by}
use Rattle.order_book.proofs.walk.change_along.Given as goal

abbrev pub invariant-loop-at : goal.invariant-loop-at
invariant-loop-at l = changed_along (drop l.at-index l.walked) (changed_by l.change) l.register ≡ changed_along l.walked (changed_by l.change) l.fn.register
