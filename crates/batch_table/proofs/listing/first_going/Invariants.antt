use Rattle.std.proofs.Common.{◌≡◌, ◌≤◌, drop, length}
use Rattle.protocol.specs.Words.{count, is_live_batch}
use Rattle.batch_table.proofs.listing.first_going.Given as goal

abbrev pub invariant-loop-first : goal.invariant-loop-first
invariant-loop-first l = record {
  within : l.first ≤ length l.batches;
  counted : l.found ≡ count is_live_batch (drop l.first l.batches);
}

abbrev pub decreases-loop-first : goal.decreases-loop-first
decreases-loop-first l = l.first
