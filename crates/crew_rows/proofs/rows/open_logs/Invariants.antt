use Rattle.std.proofs.Common.{◌≡◌, ◌≤◌, ◌+◌, ◌^◌, false, vec_len, vec_capacity}
use Rattle.std.specs.List.{AllByRecursion}
use Rattle.crew_host.specs.gate_log.declared.limits.TheConstants.{FARTHEST_END}
use Rattle.crew_rows.proofs.rows.open_logs.Given as goal

abbrev pub invariant-loop-l : goal.invariant-loop-l
invariant-loop-l l = record {
  count : vec_len l.logs ≡ l.l;
  room : l.fn.count ≤ vec_capacity l.logs;
  ready : AllByRecursion (λ k. k.shut ≡ false) l.logs.items;
  formats : AllByRecursion (λ k. k.format ≡ 2) l.logs.items;
  ends : AllByRecursion (λ k. k.end ≤ FARTHEST_END + 2 ^ 32) l.logs.items;
}
