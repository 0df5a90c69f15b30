use Rattle.std.proofs.Common.{◌≡◌, drop}
use Rattle.std.specs.Prelude.{◌==◌, find}
use Rattle.book_part.proofs.marks.has_joined.Given as goal

abbrev pub invariant-loop-mark : goal.invariant-loop-mark
invariant-loop-mark l = find (λ p. p.actor == l.a.0) (drop l.mark-index l.marks) ≡ find (λ p. p.actor == l.a.0) l.marks
