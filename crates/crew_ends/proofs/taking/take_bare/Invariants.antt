use Rattle.std.proofs.Common.{◌≡◌, ◌+◌, vec_len, vec_capacity}
use Rattle.crew_ends.specs.Lists.{besides_of, taken}
use Rattle.snap_hand.specs.protocol_laws.OneWay.{IsFront}
use Rattle.crew_ends.proofs.taking.take_bare.Given as goal

abbrev pub invariant-loop-taken : goal.invariant-loop-taken
invariant-loop-taken g l = record {
  parts : taken l.shares.items l.parts.items ≡ taken l.fn.shares.items l.fn.parts.items;
  front : IsFront (besides_of l.shares.items) (besides_of l.fn.shares.items);
  fewer : vec_len l.shares + l._taken ≡ vec_len l.fn.shares;
  more : vec_len l.parts ≡ vec_len l.fn.parts + l._taken;
  room : vec_capacity l.parts ≡ vec_capacity l.fn.parts;
}
