use Rattle.std.proofs.Common.{◌≡◌, ◌++◌, take}
use Rattle.snap_follow.proofs.copies.add_copies.Given as goal

abbrev pub invariant-loop-r : goal.invariant-loop-r
invariant-loop-r l = l.list ≡ l.initial.list ++ take l.r-index l.rs
