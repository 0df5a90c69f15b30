use Rattle.std.proofs.Common.{◌≢◌, ◌<◌, ◌≤◌, ℕ, length}
use Rattle.gate_log.specs.State.{log_at}
use Rattle.log_opening.proofs.upgrades.first_old.Given as goal

abbrev pub invariant-loop-number : goal.invariant-loop-number
invariant-loop-number g l = record {
  within : l.number ≤ length l.logs;
  below : (n : ℕ) → n < l.number → (log_at l.logs n).format ≢ 1;
}
