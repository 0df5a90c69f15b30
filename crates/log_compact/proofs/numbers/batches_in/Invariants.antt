use Rattle.std.proofs.Common.{◌≡◌, ◌≤◌, take}
use Rattle.log_compact.specs.Sets.{count_batches}
use Rattle.log_compact.proofs.numbers.batches_in.Given as goal

abbrev pub invariant-loop-k : goal.invariant-loop-k
invariant-loop-k l = (l.count ≡ count_batches (take l.k-index l.committed)) × (l.count ≤ l.k-index)
