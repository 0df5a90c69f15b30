use Rattle.protocol.proofs.Totals.{IsCounted}
use Rattle.protocol.specs.BookParts.{act_by}
use Rattle.protocol.specs.Left.{act_left}
use Rattle.protocol.specs.Words.{act_of}
use Rattle.book_part.proofs.left.acts_left.Given as goal

abbrev pub invariant-loop-act : goal.invariant-loop-act
invariant-loop-act l = IsCounted (λ k. act_left (act_by (act_of k.act.tid l.votes.acts) k.act)) l.acts l.act-index l.left
