use Rattle.trace_audit.proofs.Walking.{step_stays}
use Rattle.trace_audit.proofs.order.step.Goals as goal

pub returns-clause-still_rises : goal.returns-clause-still_rises
returns-clause-still_rises c n rest h =
    step_stays n c.args.walk.now.rises.items c.mark.new.rises.items c.args.walk.now.writers c.args.walk.now.readers c.writers_top-walk.result c.readers_top-walk.result c.args.member.now rest c.is_above-above.result
    c.is_above-above.ensures (c.mark.ensures.marks n h) c.writers_top-walk.ensures c.readers_top-walk.ensures
