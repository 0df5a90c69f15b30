use Rattle.std.proofs.Common.{refl}
use Rattle.snap_follow.proofs.Named.{act_added}
use Rattle.snap_follow.proofs.commits.add_act.Goals as goal

pub returns : goal.returns
returns c = act_added c.args.tid c.args.set.now _ c.in_ok-insert.ensures.updates refl
