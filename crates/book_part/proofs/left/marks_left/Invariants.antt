use Rattle.protocol.proofs.Totals.{IsCounted}
use Rattle.protocol.specs.BookParts.{place_by}
use Rattle.protocol.specs.Left.{joined_left}
use Rattle.protocol.specs.Words.{act_of}
use Rattle.book_part.proofs.left.marks_left.Given as goal

abbrev pub invariant-loop-mark : goal.invariant-loop-mark
invariant-loop-mark l = IsCounted (λ p. joined_left (place_by (act_of l.t.0 l.votes.acts) p)) l.marks l.mark-index l.left
