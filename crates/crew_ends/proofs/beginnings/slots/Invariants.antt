use Rattle.std.proofs.Common.{◌≡◌, ◌≤◌, vec_capacity, vec_len}
use Rattle.crew_ends.proofs.beginnings.slots.Given as goal

abbrev pub invariant-loop-made : goal.invariant-loop-made
invariant-loop-made g l = record {
  made : vec_len l.made ≡ l._made;
  room : l.fn.count ≤ vec_capacity l.made;
}
