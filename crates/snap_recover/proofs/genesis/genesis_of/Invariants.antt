use Rattle.std.proofs.Common.{◌≡◌, [], take}
use Rattle.std.specs.List.{filter}
use Rattle.snap_recover.specs.Logs.{is_genesis}
use Rattle.snap_recover.proofs.genesis.genesis_of.Given as goal

abbrev pub invariant-loop-r : goal.invariant-loop-r
invariant-loop-r l = filter is_genesis (take l.r-index l.rs) ≡ []
