use Rattle.std.proofs.Common.{◌≡◌, take, reverse}
use Rattle.snap_outside.specs.Images.{all_filled}
use Rattle.snap_outside.proofs.disks.Replay.filled.Given as goal

abbrev pub invariant-loop-at : goal.invariant-loop-at
invariant-loop-at l = l.bytes.items ≡ all_filled l.byte (reverse (take l.at-index l.at-items)) l.fn.self.now
