use Rattle.std.proofs.Common.{arith}
use Rattle.work_text.proofs.TextLines.{cut_at_feed, cut_at_end, feed_at}
use Rattle.work_text.proofs.lines.line_end.Goals as goal

pub returns-else-rest-at-ne10-clause-cut : goal.returns-else-rest-at-ne10-clause-cut
returns-else-rest-at-ne10-clause-cut c some = cut_at_feed c.args.rest.now c.loop-at.at 0 (omega arith) c.loop-at.invariant.free (omega arith)

pub returns-after-loop-at-clause-cut : goal.returns-after-loop-at-clause-cut
returns-after-loop-at-clause-cut c some = cut_at_end c.args.rest.now c.loop-at.at (omega arith) c.loop-at.invariant.free some

pub returns-else-rest-at-ne10-clause-feed : goal.returns-else-rest-at-ne10-clause-feed
returns-else-rest-at-ne10-clause-feed c lt = feed_at c.args.rest.now c.loop-at.at 0 (omega arith) (omega arith)
