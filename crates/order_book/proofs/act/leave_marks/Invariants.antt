use Rattle.std.proofs.Common.{◌≡◌, drop, take, map, ◌++◌}
use Rattle.std.specs.Prelude.{◌==◌}
use Rattle.protocol.specs.OnBook.{mark_if, has_left}
use Rattle.order_book.proofs.act.leave_marks.Given as goal

abbrev pub invariant-loop-mark : goal.invariant-loop-mark
invariant-loop-mark l = l.mark-items ≡ map (λ p. mark_if (p.actor == l.actor.0) has_left p) (take l.mark-index l.fn.marks.items) ++ drop l.mark-index l.fn.marks.items
