use Rattle.std.proofs.Common.{◌+◌, ◌-◌, ◌≤◌, length}
use Rattle.ready_list.specs.Rings.{AreRoomier}
use Rattle.ready_list.proofs.rings.grow.Given as goal

abbrev pub invariant-loop-alloc : goal.invariant-loop-alloc
invariant-loop-alloc l = record { kept : AreRoomier l.fn.kinds.items l.kinds.items; longer : length l.fn.kinds.items ≤ length l.kinds.items }

abbrev pub decreases-loop-alloc : goal.decreases-loop-alloc
decreases-loop-alloc l = l.kind + 1 - length l.kinds.items
