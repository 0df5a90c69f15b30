use Rattle.std.proofs.Common.{◌≡◌, map, take, drop, ◌++◌}
use Rattle.protocol.specs.OnCell.{done_if}
use Rattle.hybrid_schedule.proofs.slots.mark_each.Given as goal

abbrev pub invariant-loop-s : goal.invariant-loop-s
invariant-loop-s l = l.slots ≡ map (done_if l.t.0) (take l.s-index l.initial.slots) ++ drop l.s-index l.initial.slots
