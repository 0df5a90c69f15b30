use Rattle.std.proofs.Common.{◌≡◌, ◌+◌, ◌≤◌, drop}
use Rattle.log_opening.specs.Upgrades.{old_count}
use Rattle.log_opening.proofs.upgrades.old_logs.Given as goal

abbrev pub invariant-loop-log : goal.invariant-loop-log
invariant-loop-log g l = (l.count ≤ l.log-index) × (l.count + old_count (drop l.log-index l.logs) ≡ old_count l.logs)
