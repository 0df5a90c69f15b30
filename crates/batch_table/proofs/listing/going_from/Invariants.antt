use Rattle.std.proofs.Common.{◌≡◌, ◌≤◌, map, take, length}
use Rattle.std.specs.Prelude.{filter}
use Rattle.snap_base.specs.declared.ids.Bid.{Bid}
use Rattle.batch_table.specs.Listed.{is_going_batch}
use Rattle.batch_table.proofs.listing.going_from.Given as goal

abbrev pub invariant-loop-i : goal.invariant-loop-i
invariant-loop-i l = record {
  within : l.i ≤ length l.batches;
  listed : map (λ (k : Bid). k.0) l.bids.items ≡ map (λ b. b.bid) (filter is_going_batch (take l.i l.batches));
}
