use Rattle.std.proofs.Common.{arith}
use Rattle.protocol.proofs.Totals.{counted_all}
use Rattle.protocol.specs.BookParts.{act_by}
use Rattle.protocol.specs.Left.{act_left}
use Rattle.protocol.specs.Words.{act_of}
use Rattle.book_part.proofs.left.acts_left.Goals as goal

pub returns : goal.returns
returns c = counted_all (λ k. act_left (act_by (act_of k.act.tid c.args.votes.now.acts) k.act)) c.args.acts.now c.loop-act.act-index c.loop-act.left (omega arith) c.loop-act.invariant
