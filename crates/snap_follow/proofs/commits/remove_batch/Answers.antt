use Rattle.std.proofs.Common.{refl}
use Rattle.snap_follow.proofs.Named.{batch_out}
use Rattle.snap_follow.proofs.commits.remove_batch.Goals as goal

pub returns : goal.returns
returns c = batch_out c.args.bid c.args.set.now _ c.remove.result c.remove.ensures.updates refl c.remove.ensures.test c.remove.ensures.len
