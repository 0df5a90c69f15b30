use Rattle.std.proofs.Common.{take}
use Rattle.std.specs.List.{AllByRecursion}
use Rattle.snap_recover.specs.Passes.{InPair}
use Rattle.snap_recover.proofs.wholes.first_lacking.Given as goal

abbrev pub invariant-loop-actor : goal.invariant-loop-actor
invariant-loop-actor l = AllByRecursion (λ a. InPair l.parts (l.number, a.0)) (take l.actor-index l.actors)
