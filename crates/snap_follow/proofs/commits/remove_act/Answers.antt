use Rattle.std.proofs.Common.{refl}
use Rattle.snap_follow.proofs.Named.{act_out}
use Rattle.snap_follow.proofs.commits.remove_act.Goals as goal

pub returns : goal.returns
returns c = act_out c.args.tid c.args.set.now _ c.remove.result c.remove.ensures.updates refl c.remove.ensures.test c.remove.ensures.len
