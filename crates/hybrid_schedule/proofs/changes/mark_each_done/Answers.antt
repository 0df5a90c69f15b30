use Rattle.std.proofs.Common.{◌<◌, length, arith}
use Rattle.protocol.specs.OnCell.{done_in}
use Rattle.hybrid_schedule.proofs.Stepping.{map_step}
use Rattle.hybrid_schedule.proofs.changes.mark_each_done.Goals as goal

pub loop-e-preserved : goal.loop-e-preserved
loop-e-preserved c =
    let within : c.loop-e.e-index < length c.args.entries.now = omega arith in
    let still : c.loop-e.e-index < length c.loop-e.entries = omega arith in
    map_step (done_in c.args.t.0) c.args.entries.now c.loop-e.entries c.loop-e.e-index c.e-item.result c.mark_done.new.self within still c.loop-e.invariant c.mark_done.ensures
