use Rattle.std.proofs.Common.{◌≡◌, ◌+◌, length, drop}
use Rattle.hybrid_schedule.specs.Cuts.{staying_below}
use Rattle.hybrid_schedule.proofs.askings.count_below.Given as goal

abbrev pub invariant-loop-at : goal.invariant-loop-at
invariant-loop-at l = length (staying_below l.k.0 l.entries) ≡ l.at + length (staying_below l.k.0 (drop l.at l.entries))
