use Rattle.std.proofs.Common.{◌∙◌, ap, sym}
use Rattle.snap_outside.proofs.Replays.{after_next}
use Rattle.snap_outside.specs.Disk.{settled, op_done}
use Rattle.snap_outside.proofs.disks.Replay.of.Goals as goal

pub loop-op-preserved : goal.loop-op-preserved
loop-op-preserved c =
    c.in_ok-make.ensures ∙ ap (op_done c.op-item.result) c.loop-op.invariant
    ∙ sym (after_next c.args.ops.now c.loop-op.op-index (settled c.args.first.now) c.op-item.result c.loop-op-test.true c.op-item.is)
