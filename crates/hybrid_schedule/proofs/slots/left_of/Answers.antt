use Rattle.std.proofs.Common.{arith}
use Rattle.protocol.proofs.Totals.{counted_all}
use Rattle.protocol.specs.Left.{slot_left}
use Rattle.hybrid_schedule.proofs.slots.left_of.Goals as goal

pub returns : goal.returns
returns c = counted_all slot_left c.args.slots.now c.loop-slot.slot-index c.loop-slot.left (omega arith) c.loop-slot.invariant
