use Rattle.std.proofs.Common.{◌≡◌, take}
use Rattle.snap_follow.proofs.comparing.begins_with.Given as goal

abbrev pub invariant-loop-at : goal.invariant-loop-at
invariant-loop-at l = take l.at l.rs ≡ take l.at l.front
