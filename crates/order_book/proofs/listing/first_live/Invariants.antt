use Rattle.std.proofs.Common.{◌≡◌, ◌≤◌, drop, length}
use Rattle.protocol.specs.Words.{count}
use Rattle.order_book.specs.Kept.{is_live_kept}
use Rattle.order_book.proofs.listing.first_live.Given as goal

abbrev pub invariant-loop-found : goal.invariant-loop-found
invariant-loop-found l = record {
  within : l.first ≤ length l.rows;
  counted : l.found ≡ count is_live_kept (drop l.first l.rows);
}

abbrev pub decreases-loop-found : goal.decreases-loop-found
decreases-loop-found l = l.first
