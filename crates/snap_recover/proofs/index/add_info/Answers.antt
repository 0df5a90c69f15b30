use Rattle.snap_recover.specs.Passes.{info_key}
use Rattle.snap_recover.proofs.Placing.{info_here, infos_apart}
use Rattle.snap_recover.proofs.index.add_info.Goals as goal

pub returns-in_ok-push : goal.returns-in_ok-push
returns-in_ok-push c =
    info_here (info_key c.args.kind) (infos_apart c.args.kind) c.args.log c.args.logs c.args.at c.in-Some.number c.args.r.now c.args.places.now.items c.push.new.self.items
    c.in-Some.ensures.0 c.in-Some.ensures.1 c.in_ok-push.ensures.items
