use Rattle.std.proofs.Common.{map}
use Rattle.core_events.specs.Meant.{event_meant}
use Rattle.protocol.specs.Schedule.{IsEnabled}
use Rattle.snap_core.proofs.CoreRuns.{goes_on_at}
use Rattle.snap_core.proofs.cores.Core.renew.Goals as goal

pub returns-clause-renewed : goal.returns-clause-renewed
returns-clause-renewed c =
    goes_on_at (λ w s es. IsEnabled w s es) c.args.self.now c.self.inside.tables c.self.inside.hand c.self.view_is c.runs_lead.ensures (event_meant c.args.e) (map event_meant c.args.news.now.items) c.args.list.now.events c.renew.new.list.events
    c.renew.result c.renew.ensures.renewed
