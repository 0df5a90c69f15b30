use Rattle.std.proofs.Common.{take}
use Rattle.std.specs.List.{AllByRecursion}
use Rattle.crew_grip.specs.Acted.{IsReadyAt}
use Rattle.crew_grip.proofs.grips.Grip.is_ready.Given as goal

abbrev pub invariant-loop-i : goal.invariant-loop-i
invariant-loop-i g l = AllByRecursion (λ i. IsReadyAt l.logs l.self i) (take l.i l.footprint)
