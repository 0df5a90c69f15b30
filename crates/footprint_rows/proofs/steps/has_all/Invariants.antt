use Rattle.std.specs.List.{AllByRecursion}
use Rattle.std.proofs.Common.{take}
use Rattle.snap_hand.specs.Hands.{Has}
use Rattle.footprint_rows.proofs.steps.has_all.Given as goal

abbrev pub invariant-loop-n : goal.invariant-loop-n
invariant-loop-n l = AllByRecursion (Has l.hand) (take l.n l.parts)
