use Rattle.hybrid_schedule.proofs.Reaching.{is_clear_walk}
use Rattle.hybrid_schedule.proofs.askings.is_clear.Goals as goal

pub loop-place-init : goal.loop-place-init
loop-place-init c = is_clear_walk c.args.t.0 c.args.entries.now
