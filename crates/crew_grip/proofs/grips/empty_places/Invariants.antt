use Rattle.std.proofs.Common.{◌≡◌, None, replicate}
use Rattle.crew_grip.proofs.grips.empty_places.Given as goal

abbrev pub invariant-loop-made : goal.invariant-loop-made
invariant-loop-made g l = l.places.items ≡ replicate l._made None
