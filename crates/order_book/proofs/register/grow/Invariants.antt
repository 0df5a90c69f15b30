use Rattle.std.proofs.Common.{◌≡◌, ℕ, ◌+◌, ◌-◌, get_or, length}
use Rattle.std.specs.Prelude.{None}
use Rattle.order_book.proofs.register.grow.Given as goal

abbrev pub invariant-loop-by_tx : goal.invariant-loop-by_tx
invariant-loop-by_tx l = (n : ℕ) → get_or l.by_tx.items n None ≡ get_or l.fn.by_tx.items n None

abbrev pub decreases-loop-by_tx : goal.decreases-loop-by_tx
decreases-loop-by_tx l = l.upto + 1 - length l.by_tx.items
