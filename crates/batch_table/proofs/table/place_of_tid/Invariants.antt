use Rattle.std.proofs.Common.{◌<◌, ◌≤◌, length}
use Rattle.std.specs.Prelude.{slice_index_or}
use Rattle.protocol.specs.Parts.{Batch}
use Rattle.batch_table.proofs.ByTid.{first_tid}
use Rattle.batch_table.proofs.table.place_of_tid.Given as goal

-- the batch here is above the tid
abbrev pub invariant-loop-at : goal.invariant-loop-at
invariant-loop-at l = (l.at ≤ length l.batches) × ((d : Batch) → l.at < length l.batches → l.tid.0 < first_tid (slice_index_or l.batches l.at d))

abbrev pub decreases-loop-at : goal.decreases-loop-at
decreases-loop-at l = l.at
