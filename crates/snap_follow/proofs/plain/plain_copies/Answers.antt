use Rattle.snap_recover.proofs.Steps.{same_at}
use Rattle.std.proofs.Common.{◌∙◌}
use Rattle.snap_follow.proofs.PlainCopies.{plain_more}
use Rattle.snap_follow.proofs.plain.plain_copies.Goals as goal

pub loop-log-preserved : goal.loop-log-preserved
loop-log-preserved c =
    let i = c.loop-log.log in
    let next = c.in_ok-next.next in
    plain_more c.args.lists.now c.requires i next c.loop-log.plain c.push-in-loop-log.new.self c.loop-log-test.true
    (same_at c.args.lists.now i c.index-lists-log.result next (c.in_ok-next.ensures ∙ c.as_slice-in-loop-log.ensures) c.index-lists-log.is)
    c.in_ok-push-2.ensures c.loop-log.invariant
