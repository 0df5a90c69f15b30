use Rattle.std.proofs.Common.{map}
use Rattle.core_events.specs.Meant.{event_meant}
use Rattle.snap_core.proofs.CoreRuns.{foreseen_at}
use Rattle.snap_core.proofs.cores.Core.foresee.Goals as goal

pub returns : goal.returns
returns c = foreseen_at c.args.self.now c.self.inside.tables c.self.inside.hand c.self.view_is c.runs_lead.ensures (event_meant c.args.e) (map event_meant c.foreseen.new.events.items) c.foreseen.result c.foreseen.ensures
