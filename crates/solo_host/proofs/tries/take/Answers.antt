use Rattle.std.proofs.Common.{subst, sym}
use Rattle.snap_core.specs.Cores.{CoreState}
use Rattle.snap_core.specs.core_events.Meant.{event_meant}
use Rattle.solo_host.specs.Turns.{HasTried}
use Rattle.solo_host.proofs.tries.take.Goals as goal

pub returns-in-Ok-clause-tried : goal.returns-in-Ok-clause-tried
returns-in-Ok-clause-tried c = (c.in-Ok.ensures.ok, c.requires)

pub returns-in-Err-clause-tried : goal.returns-in-Err-clause-tried
returns-in-Err-clause-tried c =
    let e = event_meant c.args.e in
    subst (λ (z : CoreState). HasTried e c.args.core.now z c.not_taken.result) (sym c.in-Err.ensures.unchanged) (c.not_taken.ensures e c.args.core.now c.in-Err.ensures.no)
