use Rattle.std.proofs.Common.{map}
use Rattle.core_events.specs.Meant.{event_meant}
use Rattle.ready_renewal.specs.Covering.{Covers}
use Rattle.snap_core.proofs.CoreRuns.{goes_on_at}
use Rattle.snap_core.proofs.cores.Core.advance.Goals as goal

pub returns-clause-advanced : goal.returns-clause-advanced
returns-clause-advanced c =
    goes_on_at Covers c.args.self.now c.self.inside.tables c.self.inside.hand c.self.view_is c.runs_lead.ensures (event_meant c.args.e) (map event_meant c.args.news.now.items) c.args.list.now.events c.advance.new.list.events
    c.advance.result c.advance.ensures.advanced
