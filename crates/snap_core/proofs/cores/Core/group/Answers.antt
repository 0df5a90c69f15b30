use Rattle.std.proofs.Common.{◌<◌, sym, subst}
use Rattle.protocol.specs.Events.{log}
use Rattle.snap_core.proofs.CoreRuns.{group_at}
use Rattle.snap_core.proofs.cores.Core.group.Goals as goal

pub group-requires-clause-exists : goal.group-requires-clause-exists
group-requires-clause-exists c =
    subst (λ n. c.args.l < n) (sym c.self.invariant.places.logs) (subst (λ z. c.args.l < z.tables.work.logs) (sym c.self.view_is) c.requires)

pub group-requires-clause-log : goal.group-requires-clause-log
group-requires-clause-log c = c.self.invariant.whole (log c.args.l)

pub returns : goal.returns
returns c = group_at c.args.self.now c.self.inside.tables c.self.inside.hand c.self.view_is c.group.result.now c.args.l c.group.ensures
