use Rattle.std.proofs.Common.{◌≡◌, take}
use Rattle.snap_follow.proofs.comparing.are_same_tids.Given as goal

abbrev pub invariant-loop-at : goal.invariant-loop-at
invariant-loop-at l = take l.at l.a ≡ take l.at l.b
