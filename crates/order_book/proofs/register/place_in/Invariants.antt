use Rattle.std.proofs.Common.{◌≡◌, ℕ, ◌<◌, ◌≤◌, get_or, length}
use Rattle.order_book.proofs.register.place_in.Given as goal

-- those from here on are greater
abbrev pub invariant-loop-at : goal.invariant-loop-at
invariant-loop-at l = (l.at ≤ length l.tids) × ((k : ℕ) → l.at ≤ k → k < length l.tids → l.t < get_or l.tids k 0)

abbrev pub decreases-loop-at : goal.decreases-loop-at
decreases-loop-at l = l.at
