use Rattle.std.proofs.Common.{refl}
use Rattle.snap_follow.proofs.Named.{batch_added}
use Rattle.snap_follow.proofs.commits.add_batch.Goals as goal

pub returns : goal.returns
returns c = batch_added c.args.bid c.args.set.now _ c.in_ok-insert.ensures.updates refl
