use Rattle.snap_core.proofs.Falling.{left_at}
use Rattle.snap_core.proofs.cores.Core.left.Goals as goal

pub left-requires : goal.left-requires
left-requires c = c.self.invariant.whole

pub returns : goal.returns
returns c = left_at c.args.self.now c.self.inside.tables c.self.inside.hand c.self.view_is c.self.invariant c.runs_lead.ensures c.sizes_hold.ensures c.every_run_ends.ensures c.left.result c.left.ensures
