use Rattle.std.proofs.Common.{◌≡◌, take}
use Rattle.snap_follow.specs.Passes.{chosen_lists}
use Rattle.snap_follow.proofs.choosing.chosen.Given as goal

abbrev pub invariant-loop-rs : goal.invariant-loop-rs
invariant-loop-rs l = l.some ≡ chosen_lists l.set (take l.rs-index l.lists)
