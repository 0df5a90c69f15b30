use Rattle.std.proofs.Common.{◌≡◌, drop, take, map, ◌++◌}
use Rattle.order_book.specs.Kept.{without_after}
use Rattle.order_book.proofs.acts.cut_rows.Given as goal

abbrev pub invariant-loop-row : goal.invariant-loop-row
invariant-loop-row l = l.row-items ≡ map without_after (take l.row-index l.fn.rows.items) ++ drop l.row-index l.fn.rows.items
