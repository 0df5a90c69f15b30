use Rattle.std.proofs.Common.{◌≡◌, take}
use Rattle.std.specs.List.{filter}
use Rattle.snap_follow.specs.Passes.{is_chosen}
use Rattle.snap_follow.proofs.choosing.chosen_of.Given as goal

abbrev pub invariant-loop-r : goal.invariant-loop-r
invariant-loop-r l = l.some ≡ filter (is_chosen l.set) (take l.r-index l.rs)
