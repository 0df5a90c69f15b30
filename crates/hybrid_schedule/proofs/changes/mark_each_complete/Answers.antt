use Rattle.std.proofs.Common.{◌<◌, length, arith}
use Rattle.protocol.specs.OnCell.{complete_in}
use Rattle.hybrid_schedule.proofs.Stepping.{map_step}
use Rattle.hybrid_schedule.proofs.changes.mark_each_complete.Goals as goal

pub loop-e-preserved : goal.loop-e-preserved
loop-e-preserved c =
    let within : c.loop-e.e-index < length c.args.entries.now = omega arith in
    let still : c.loop-e.e-index < length c.loop-e.entries = omega arith in
    map_step (complete_in c.args.k.0) c.args.entries.now c.loop-e.entries c.loop-e.e-index c.e-item.result c.mark_complete.new.self within still c.loop-e.invariant c.mark_complete.ensures
