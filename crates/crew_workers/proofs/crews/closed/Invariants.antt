use Rattle.std.proofs.Common.{◌≡◌}
use Rattle.crew_workers.proofs.crews.closed.Given as goal

abbrev pub invariant-loop : goal.invariant-loop
invariant-loop g l = (l.turns ≡ l.initial.turns) × (l.passes.items ≡ l.initial.passes.items)
