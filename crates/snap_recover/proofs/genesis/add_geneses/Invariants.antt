use Rattle.std.proofs.Common.{◌≡◌, ◌+◌, min, length, take}
use Rattle.std.specs.List.{filter}
use Rattle.snap_recover.specs.Logs.{is_genesis}
use Rattle.snap_recover.proofs.genesis.add_geneses.Given as goal

abbrev pub invariant-loop-r : goal.invariant-loop-r
invariant-loop-r l = l.count ≡ min 2 (l.so_far + length (filter is_genesis (take l.r-index l.rs)))
