use Rattle.snap_core.proofs.CoreRuns.{enabled_at}
use Rattle.snap_core.proofs.cores.Core.enabled.Goals as goal

pub returns : goal.returns
returns c = enabled_at c.args.self.now c.self.inside.tables c.self.inside.hand c.self.view_is c.self.invariant c.runs_lead.ensures c.offers.result c.offers.ensures
