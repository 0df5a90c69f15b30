use Rattle.std.proofs.Common.{◌≡◌, ◌+◌, ◌≤◌, ◌++◌, false, map, reverse, vec_len, vec_capacity}
use Rattle.std.specs.List.{AllByRecursion}
use Rattle.crew_ends.specs.Lists.{besides_of, laid}
use Rattle.crew_parts.specs.Besides.{beside_log}
use Rattle.crew_ends.proofs.laying.lay_logs.Given as goal

abbrev pub invariant-loop-log : goal.invariant-loop-log
invariant-loop-log g l = record {
  parts : laid l.parts.items l.shares.items ≡ laid l.fn.parts.items l.fn.shares.items;
  besides : map beside_log l.fn.logs.items ++ besides_of (reverse l.fn.shares.items) ≡ map beside_log l.logs.items ++ besides_of (reverse l.shares.items);
  ready : AllByRecursion (λ j. j.shut ≡ false) l.logs.items;
  format : AllByRecursion (λ j. j.format ≡ 2) l.logs.items;
  slots : vec_len l.slots + vec_len l.fn.logs ≡ vec_len l.fn.slots + vec_len l.logs;
  capacity : vec_capacity l.logs ≡ vec_capacity l.fn.logs;
  fewer : vec_len l.parts + vec_len l.fn.logs ≡ vec_len l.fn.parts + vec_len l.logs;
  more : vec_len l.shares + vec_len l.logs ≡ vec_len l.fn.shares + vec_len l.fn.logs;
  room : vec_capacity l.shares ≡ vec_capacity l.fn.shares;
  left : vec_len l.logs ≤ vec_len l.fn.logs;
}

abbrev pub decreases-loop-log : goal.decreases-loop-log
decreases-loop-log g l = vec_len l.logs
