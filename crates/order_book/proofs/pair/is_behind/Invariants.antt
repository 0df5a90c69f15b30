use Rattle.std.proofs.Common.{◌≡◌, drop}
use Rattle.order_book.specs.Walking.{is_behind}
use Rattle.order_book.proofs.pair.is_behind.Given as goal

abbrev pub invariant-loop-pair : goal.invariant-loop-pair
invariant-loop-pair l = is_behind (drop l.pair-index l.pairs) l.t.0 ≡ is_behind l.pairs l.t.0
