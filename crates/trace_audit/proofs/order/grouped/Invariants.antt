use Rattle.std.proofs.Common.{take}
use Rattle.trace_audit.specs.Risen.{AreGrouped}
use Rattle.trace_audit.proofs.order.grouped.Given as goal

abbrev pub invariant-loop-member : goal.invariant-loop-member
invariant-loop-member l = AreGrouped (take l.member-index l.members) l.groups.batches.items l.groups.acts.items
