use Rattle.std.proofs.Common.{◌==◌, arith}
use Rattle.protocol.specs.Parts.{Declared}
use Rattle.protocol.specs.OnDesk as desk
use Rattle.batch_table.proofs.LiveCount.{map_step}
use Rattle.batch_table.proofs.actors.trim.Goals as goal

pub loop-entry-preserved : goal.loop-entry-preserved
loop-entry-preserved c =
    map_step (λ (p : Declared). desk.mark_if (p.actor == c.args.actor.0) desk.is_trimmed p) c.args.actors.now c.loop-entry.actors c.loop-entry.entry-index c.entry-item.result c.trim_if.new.self
    c.loop-entry-test.true (omega (arith, c.loop-entry.auto.actors)) c.loop-entry.invariant c.trim_if.ensures
