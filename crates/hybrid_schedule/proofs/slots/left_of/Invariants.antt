use Rattle.protocol.proofs.Totals.{IsCounted}
use Rattle.protocol.specs.Left.{slot_left}
use Rattle.hybrid_schedule.proofs.slots.left_of.Given as goal

abbrev pub invariant-loop-slot : goal.invariant-loop-slot
invariant-loop-slot l = IsCounted slot_left l.slots l.slot-index l.left
