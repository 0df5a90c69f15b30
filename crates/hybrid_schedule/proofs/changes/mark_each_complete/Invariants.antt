use Rattle.std.proofs.Common.{◌≡◌, map, take, drop, ◌++◌}
use Rattle.protocol.specs.OnCell.{complete_in}
use Rattle.hybrid_schedule.proofs.changes.mark_each_complete.Given as goal

abbrev pub invariant-loop-e : goal.invariant-loop-e
invariant-loop-e l = l.entries ≡ map (complete_in l.k.0) (take l.e-index l.initial.entries) ++ drop l.e-index l.initial.entries
