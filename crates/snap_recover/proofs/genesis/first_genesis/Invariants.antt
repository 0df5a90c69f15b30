use Rattle.std.proofs.Common.{◌≡◌, [], take}
use Rattle.snap_recover.specs.Logs.{geneses}
use Rattle.snap_recover.proofs.genesis.first_genesis.Given as goal

abbrev pub invariant-loop-rs : goal.invariant-loop-rs
invariant-loop-rs l = geneses (take l.rs-index l.logs) ≡ []
