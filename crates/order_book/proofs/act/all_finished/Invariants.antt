use Rattle.std.proofs.Common.{◌≡◌, drop}
use Rattle.std.specs.List.{list_all}
use Rattle.order_book.proofs.act.all_finished.Given as goal

abbrev pub invariant-loop-mark : goal.invariant-loop-mark
invariant-loop-mark l = list_all (λ p. p.finished) (drop l.mark-index l.marks) ≡ list_all (λ p. p.finished) l.marks
