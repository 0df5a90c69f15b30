use Rattle.std.proofs.Common.{◌≡◌, ◌+◌, ◌-◌, ◌≤◌, ◌++◌, take, drop, vec_len, vec_capacity}
use Rattle.run_opening.proofs.opens.take_out.Given as goal

abbrev pub invariant-loop-in_use : goal.invariant-loop-in_use
invariant-loop-in_use g l = record {
  few : vec_len l.in_use ≤ l.count;
  long : vec_len l.logs + vec_len l.in_use ≡ vec_len l.fn.logs;
  room : l.count ≤ vec_capacity l.in_use;
  taken : l.in_use.items ≡ take (vec_len l.in_use) (drop l.head l.fn.logs.items);
  left : l.logs.items ≡ take l.head l.fn.logs.items ++ drop (l.head + vec_len l.in_use) l.fn.logs.items;
}

abbrev pub decreases-loop-in_use : goal.decreases-loop-in_use
decreases-loop-in_use g l = l.count - vec_len l.in_use
