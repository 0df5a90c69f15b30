use Rattle.std.proofs.Common.{◌≡◌, ◌≤◌, vec_len, vec_capacity}
use Rattle.log_opening.specs.Upgrades.{AreReadyBelow}
use Rattle.log_opening.proofs.upgrades.upgrade_logs.Given as goal

abbrev pub invariant-loop-number : goal.invariant-loop-number
invariant-loop-number g l = record {
  within : l.number ≤ l.count;
  ready : AreReadyBelow l.head l.number l.fn.logs.items l.logs.items l.listed;
  len : vec_len l.logs ≡ vec_len l.fn.logs;
  room : vec_capacity l.logs ≡ vec_capacity l.fn.logs;
}
