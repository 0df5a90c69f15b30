use Rattle.hybrid_schedule.proofs.Reaching.{is_behind_no_act_walk}
use Rattle.hybrid_schedule.proofs.askings.is_behind_no_act.Goals as goal

pub loop-e-init : goal.loop-e-init
loop-e-init c = is_behind_no_act_walk c.args.k.0 c.args.entries.now
