use Rattle.snap_recover.specs.declared.kinds.Kind.TheVariants as kinds
use Rattle.snap_recover.specs.Passes.{commit_key}
use Rattle.snap_recover.proofs.Placing.{info_here, commits_apart}
use Rattle.snap_recover.proofs.commits.add_place.Goals as goal

pub returns-in_ok-push : goal.returns-in_ok-push
returns-in_ok-push c =
    info_here (commit_key kinds.Batch) commits_apart c.args.log c.args.logs c.args.at c.in-Some.number c.args.r.now c.args.places.now.items c.push.new.self.items
    c.in-Some.ensures.0 c.in-Some.ensures.1 c.in_ok-push.ensures.items
