use Rattle.std.proofs.Common.{◌<◌, length, arith}
use Rattle.protocol.specs.OnCell.{done_if}
use Rattle.hybrid_schedule.proofs.Stepping.{map_step}
use Rattle.hybrid_schedule.proofs.slots.mark_each.Goals as goal

pub loop-s-preserved : goal.loop-s-preserved
loop-s-preserved c =
    let within : c.loop-s.s-index < length c.args.slots.now = omega arith in
    let still : c.loop-s.s-index < length c.loop-s.slots = omega arith in
    map_step (done_if c.args.t.0) c.args.slots.now c.loop-s.slots c.loop-s.s-index c.s-item.result c.mark_done.new.self within still c.loop-s.invariant c.mark_done.ensures
