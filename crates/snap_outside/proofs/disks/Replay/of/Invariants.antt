use Rattle.std.proofs.Common.{◌≡◌, take}
use Rattle.snap_outside.specs.Disk.{settled, disk_after}
use Rattle.snap_outside.proofs.disks.Replay.of.Given as goal

abbrev pub invariant-loop-op : goal.invariant-loop-op
invariant-loop-op l = l.replay ≡ disk_after (take l.op-index l.ops) (settled l.first)
