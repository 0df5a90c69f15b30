use Rattle.snap_recover.specs.declared.kinds.Kind.TheVariants as kinds
use Rattle.snap_recover.specs.Passes.{commit_key}
use Rattle.snap_recover.proofs.Placing.{infos_settled}
use Rattle.snap_recover.proofs.commits.commits_of.Goals as goal

pub returns : goal.returns
returns c = infos_settled (commit_key kinds.Batch) c.args.logs.now c.in_ok-places.places.items c.settle_places.new.places.items c.in_ok-settle_places.ensures.ascend c.in_ok-settle_places.ensures.same c.in_ok-places.ensures
