use Rattle.std.proofs.Common.{◌≡◌, ◌-◌, ◌^◌, ◌≤◌, Some}
use Rattle.log_reading.proofs.reading.read_items.Given as goal

abbrev pub invariant-loop-offset : goal.invariant-loop-offset
invariant-loop-offset g l = record {
  history : g.D.LogDev.told l.dev ≡ g.D.LogDev.told l.fn.dev;
  known : g.D.LogDev.told_length l.dev ≡ Some l.len;
  later : g.D.LogDev.faults l.fn.dev ≤ g.D.LogDev.faults l.dev;
}

abbrev pub decreases-loop-offset : goal.decreases-loop-offset
decreases-loop-offset g l = 2 ^ 64 - l.len
