use Rattle.std.proofs.Common.{◌≡◌, take}
use Rattle.run_opening.proofs.comparisons.compare_states.Given as goal

abbrev pub invariant-loop-actor : goal.invariant-loop-actor
invariant-loop-actor l = take l.actor l.kept ≡ take l.actor l.text
