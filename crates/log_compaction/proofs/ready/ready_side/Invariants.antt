use Rattle.std.proofs.Common.{◌≡◌, ◌≤◌, length, vec_len, vec_capacity}
use Rattle.log_compact.specs.Sides.{AreDone}
use Rattle.log_compaction.specs.Ready.{IsBlank}
use Rattle.log_compaction.proofs.ready.ready_side.Given as goal

abbrev pub invariant-loop-log : goal.invariant-loop-log
invariant-loop-log g l = record {
  within : l.log ≤ length l.fn.logs.items;
  ready : AreDone IsBlank l.from l.log l.fn.logs.items l.logs.items;
  len : vec_len l.logs ≡ vec_len l.fn.logs;
  room : vec_capacity l.logs ≡ vec_capacity l.fn.logs;
}
