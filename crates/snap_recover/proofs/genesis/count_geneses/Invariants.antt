use Rattle.std.proofs.Common.{◌≡◌, min, length, take}
use Rattle.snap_recover.specs.Logs.{geneses}
use Rattle.snap_recover.proofs.genesis.count_geneses.Given as goal

abbrev pub invariant-loop-rs : goal.invariant-loop-rs
invariant-loop-rs l = l.count ≡ min 2 (length (geneses (take l.rs-index l.logs)))
