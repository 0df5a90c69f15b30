use Rattle.std.proofs.Common.{◌≡◌, max, drop}
use Rattle.protocol.specs.Words.{batches_on, greatest}
use Rattle.hybrid_schedule.proofs.askings.greatest_batch.Given as goal

abbrev pub invariant-loop-e : goal.invariant-loop-e
invariant-loop-e l = max l.greatest (greatest (batches_on (drop l.e-index l.entries))) ≡ max l.number (greatest (batches_on l.entries))
