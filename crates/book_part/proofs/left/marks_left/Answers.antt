use Rattle.std.proofs.Common.{arith}
use Rattle.protocol.proofs.Totals.{counted_all}
use Rattle.protocol.specs.BookParts.{place_by}
use Rattle.protocol.specs.Left.{joined_left}
use Rattle.protocol.specs.Words.{act_of}
use Rattle.book_part.proofs.left.marks_left.Goals as goal

pub returns : goal.returns
returns c = counted_all (λ p. joined_left (place_by (act_of c.args.t.0 c.args.votes.now.acts) p)) c.args.marks.now c.loop-mark.mark-index c.loop-mark.left (omega arith) c.loop-mark.invariant
