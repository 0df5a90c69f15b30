use Rattle.std.proofs.Common.{◌≡◌, ◌+◌, [], vec_len, vec_capacity}
use Rattle.crew_ends.specs.Lists.{besides_of, gathered, taken}
use Rattle.snap_hand.specs.protocol_laws.OneWay.{IsFront}
use Rattle.crew_ends.proofs.taking.take_logs.Given as goal

abbrev pub invariant-loop-taken : goal.invariant-loop-taken
invariant-loop-taken g l = record {
  parts : taken l.shares.items l.parts.items ≡ taken l.fn.shares.items l.fn.parts.items;
  front : IsFront (besides_of l.shares.items) (besides_of l.fn.shares.items);
  journals : gathered (besides_of l.shares.items) l.logs.items ≡ gathered (besides_of l.fn.shares.items) [];
  fewer : vec_len l.shares + l._taken ≡ 4 + l.count;
  more : vec_len l.parts ≡ vec_len l.fn.parts + l._taken;
  room : vec_capacity l.parts ≡ vec_capacity l.fn.parts;
  logs : vec_len l.logs ≡ l._taken;
  capacity : vec_capacity l.logs ≡ vec_capacity l.fn.logs;
}
