use Rattle.std.proofs.Common.{◌≡◌, ◌++◌, map, take}
use Rattle.protocol.specs.Meant.{tid_number}
use Rattle.hybrid_schedule.specs.Listed.{undone_in}
use Rattle.hybrid_schedule.proofs.slots.add_undone.Given as goal

abbrev pub invariant-loop-slot : goal.invariant-loop-slot
invariant-loop-slot l = map tid_number l.tids.items ≡ map tid_number l.fn.tids.items ++ undone_in (take l.slot-index l.slots)
