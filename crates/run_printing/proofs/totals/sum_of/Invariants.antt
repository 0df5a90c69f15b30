use Rattle.std.proofs.Common.{◌≡◌, ◌≤◌, ◌*◌, ◌^◌, take, unsigned_abs}
use Rattle.run_printing.specs.Summed.{sum_of}
use Rattle.run_printing.proofs.totals.sum_of.Given as goal

-- the sum so far
abbrev pub invariant-loop-value : goal.invariant-loop-value
invariant-loop-value l = record {
  sum : l.sum ≡ sum_of (take l.value-index l.values);
  small : unsigned_abs l.sum ≤ l.value-index * 2 ^ 63;
}
