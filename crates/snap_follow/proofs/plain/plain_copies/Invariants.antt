use Rattle.snap_follow.proofs.PlainCopies.{PlainThrough}
use Rattle.snap_follow.proofs.plain.plain_copies.Given as goal

abbrev pub invariant-loop-log : goal.invariant-loop-log
invariant-loop-log l = PlainThrough l.lists l.log l.plain
