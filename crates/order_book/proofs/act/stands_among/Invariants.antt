use Rattle.std.proofs.Common.{◌≡◌, drop}
use Rattle.std.specs.Prelude.{◌==◌, find}
use Rattle.order_book.proofs.act.stands_among.Given as goal

abbrev pub invariant-loop-mark : goal.invariant-loop-mark
invariant-loop-mark l = find (λ p. p.actor == l.actor.0) (drop l.mark-index l.marks) ≡ find (λ p. p.actor == l.actor.0) l.marks
