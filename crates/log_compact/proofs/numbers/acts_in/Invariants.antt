use Rattle.std.proofs.Common.{◌≡◌, ◌≤◌, take}
use Rattle.log_compact.specs.Sets.{count_acts}
use Rattle.log_compact.proofs.numbers.acts_in.Given as goal

abbrev pub invariant-loop-k : goal.invariant-loop-k
invariant-loop-k l = (l.count ≡ count_acts (take l.k-index l.committed)) × (l.count ≤ l.k-index)
