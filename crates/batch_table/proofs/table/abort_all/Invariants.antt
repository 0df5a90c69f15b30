use Rattle.std.proofs.Common.{◌≡◌, ◌+◌, ◌++◌, map, take, drop}
use Rattle.protocol.specs.Words.{count, is_live_batch}
use Rattle.batch_table.specs.Places.{gone}
use Rattle.batch_table.proofs.table.abort_all.Given as goal

abbrev pub invariant-loop-batch : goal.invariant-loop-batch
invariant-loop-batch l = record {
  changed : l.batches ≡ map gone (take l.batch-index l.initial.batches) ++ drop l.batch-index l.initial.batches;
  counted : l.live + count is_live_batch (drop l.batch-index l.initial.batches) ≡ count is_live_batch l.initial.batches;
}
