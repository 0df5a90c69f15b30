use Rattle.std.proofs.Common.{◌<◌, length, sym, subst}
use Rattle.protocol.specs.Events.{cell}
use Rattle.snap_core.specs.Cores.{state_at}
use Rattle.snap_hand.specs.Hands.{Fits}
use Rattle.snap_core.proofs.cores.Core.state.Goals as goal

pub state-requires-clause-actor : goal.state-requires-clause-actor
state-requires-clause-actor c =
    subst (λ n. c.args.a.0 < n) (sym c.self.invariant.places.cells) (subst (λ z. c.args.a.0 < length z.tables.opening.states) (sym c.self.view_is) c.requires)

pub state-requires-clause-cell : goal.state-requires-clause-cell
state-requires-clause-cell c = c.self.invariant.whole (cell (length c.self.inside.hand.logs) c.args.a.0)

pub returns : goal.returns
returns c es at =
    let s = state_at c.args.self.now es in
    c.state.ensures s (subst (λ z. Fits z.hand s) (sym c.self.view_is) at.fits)
