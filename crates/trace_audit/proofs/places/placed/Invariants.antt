use Rattle.std.proofs.Common.{◌≡◌, ◌≤◌, drop, length}
use Rattle.trace_audit.specs.Placed.{ArePlaced, least_batch}
use Rattle.trace_audit.proofs.places.placed.Given as goal

abbrev pub invariant-loop-left : goal.invariant-loop-left
invariant-loop-left l = record {
  within : l.left ≤ length l.members;
  least : l.least ≡ least_batch (drop l.left l.members);
  placed : ArePlaced (drop l.left l.members) l.groups.items;
}

abbrev pub decreases-loop-left : goal.decreases-loop-left
decreases-loop-left l = l.left
