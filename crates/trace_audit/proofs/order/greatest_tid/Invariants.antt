use Rattle.std.proofs.Common.{◌≤◌, take}
use Rattle.std.specs.List.{AllByRecursion}
use Rattle.trace_audit.proofs.order.greatest_tid.Given as goal

abbrev pub invariant-loop-member : goal.invariant-loop-member
invariant-loop-member l = AllByRecursion (λ m. m.tid.0 ≤ l.greatest) (take l.member-index l.members)
