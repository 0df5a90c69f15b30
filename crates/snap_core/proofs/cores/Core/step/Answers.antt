use Rattle.std.proofs.Common.{◌≡◌, OnOk, OnErr, IfErr, ap, subst}
use Rattle.snap_core.specs.Cores.{HasTaken, IsNoBy}
use Rattle.core_events.specs.Meant.{event_meant}
use Rattle.snap_core.proofs.CoreRuns.{core_of, may_be_asked, taken_by, no_by, same_by, still_core}
use Rattle.snap_core.proofs.cores.Core.step.Goals as goal

pub apply-requires-clause-asked : goal.apply-requires-clause-asked
apply-requires-clause-asked c = may_be_asked c.self.inside.tables (event_meant c.args.e) c.self.inside.hand c.self.invariant

pub invariant_of-self : goal.invariant_of-self
invariant_of-self c = still_core c.self.inside.tables (event_meant c.args.e) c.self.inside.hand c.apply.new.hand c.apply.result c.runs_go_on.ensures c.apply.ensures c.self.invariant

pub returns-clause-ok : goal.returns-clause-ok
returns-clause-ok c =
    subst (λ z. OnOk c.apply.result (HasTaken (event_meant c.args.e) z (core_of c.self.inside.tables c.apply.new.hand))) c.self.view_is
    (taken_by c.self.inside.tables c.runs_lead.ensures (event_meant c.args.e) c.self.inside.hand c.apply.new.hand c.apply.result c.apply.ensures)

pub returns-clause-no : goal.returns-clause-no
returns-clause-no c =
    subst (λ z. IfErr c.apply.result (IsNoBy (event_meant c.args.e) z)) c.self.view_is
    (no_by c.self.inside.tables c.runs_lead.ensures (event_meant c.args.e) c.self.inside.hand c.apply.new.hand c.apply.result c.apply.ensures)

pub returns-clause-unchanged : goal.returns-clause-unchanged
returns-clause-unchanged c =
    subst (λ z. OnErr c.apply.result (core_of c.self.inside.tables c.apply.new.hand ≡ z)) c.self.view_is
    (same_by c.self.inside.tables (event_meant c.args.e) c.self.inside.hand c.apply.new.hand c.apply.result c.apply.ensures)

pub returns-clause-tables : goal.returns-clause-tables
returns-clause-tables c = ap (λ z. z.tables) c.self.view_is
