use Rattle.std.proofs.Common.{◌≡◌, ◌+◌, ◌++◌, replicate, reverse, vec_len, vec_capacity}
use Rattle.crew_ends.specs.Lists.{besides_of, laid}
use Rattle.crew_parts.specs.Besides.{beside_none}
use Rattle.crew_ends.proofs.laying.lay_bare.Given as goal

abbrev pub invariant-loop-laid : goal.invariant-loop-laid
invariant-loop-laid g l = record {
  parts : laid l.parts.items l.shares.items ≡ laid l.fn.parts.items l.fn.shares.items;
  besides : besides_of (reverse l.shares.items) ≡ replicate l._laid beside_none ++ besides_of (reverse l.fn.shares.items);
  fewer : vec_len l.parts + l._laid ≡ vec_len l.fn.parts;
  more : vec_len l.shares ≡ vec_len l.fn.shares + l._laid;
  room : vec_capacity l.shares ≡ vec_capacity l.fn.shares;
}
