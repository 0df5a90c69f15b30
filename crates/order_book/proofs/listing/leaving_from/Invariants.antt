use Rattle.std.proofs.Common.{◌≡◌, ◌≤◌, map, take, length}
use Rattle.std.specs.Prelude.{filter}
use Rattle.protocol.specs.Meant.{tid_number}
use Rattle.order_book.specs.Kept.{is_leaving_kept, tid_kept}
use Rattle.order_book.proofs.listing.leaving_from.Given as goal

abbrev pub invariant-loop-at : goal.invariant-loop-at
invariant-loop-at l = record {
  within : l.at ≤ length l.rows;
  listed : map tid_number l.tids.items ≡ map tid_kept (filter is_leaving_kept (take l.at l.rows));
}
