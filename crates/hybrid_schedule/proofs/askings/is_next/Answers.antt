use Rattle.hybrid_schedule.proofs.Reaching.{is_next_walk}
use Rattle.hybrid_schedule.proofs.askings.is_next.Goals as goal

pub loop-e-init : goal.loop-e-init
loop-e-init c = is_next_walk c.args.k.0 c.args.entries.now
