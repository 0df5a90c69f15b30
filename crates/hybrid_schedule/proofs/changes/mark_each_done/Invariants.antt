use Rattle.std.proofs.Common.{◌≡◌, map, take, drop, ◌++◌}
use Rattle.protocol.specs.OnCell.{done_in}
use Rattle.hybrid_schedule.proofs.changes.mark_each_done.Given as goal

abbrev pub invariant-loop-e : goal.invariant-loop-e
invariant-loop-e l = l.entries ≡ map (done_in l.t.0) (take l.e-index l.initial.entries) ++ drop l.e-index l.initial.entries
