use Rattle.std.proofs.Common.{subst}
use Rattle.snap_core.specs.Cores.{IsRefusalBy}
use Rattle.core_events.specs.Meant.{event_meant}
use Rattle.snap_core.proofs.CoreRuns.{may_be_asked, refused_by}
use Rattle.snap_core.proofs.cores.Core.refusal.Goals as goal

pub refusal-requires-clause-asked : goal.refusal-requires-clause-asked
refusal-requires-clause-asked c = may_be_asked c.self.inside.tables (event_meant c.args.e) c.self.inside.hand c.self.invariant

pub returns : goal.returns
returns c = subst (λ z. IsRefusalBy (event_meant c.args.e) z c.refusal.result) c.self.view_is (refused_by c.self.inside.tables c.runs_lead.ensures (event_meant c.args.e) c.self.inside.hand c.refusal.result c.refusal.ensures)
