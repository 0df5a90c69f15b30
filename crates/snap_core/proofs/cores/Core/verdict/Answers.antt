use Rattle.std.proofs.Common.{sym, subst}
use Rattle.protocol.specs.Events.{book, desk}
use Rattle.snap_core.specs.Cores.{state_at}
use Rattle.snap_hand.specs.Hands.{Fits}
use Rattle.snap_core.proofs.cores.Core.verdict.Goals as goal

pub verdict-requires-clause-book : goal.verdict-requires-clause-book
verdict-requires-clause-book c = c.self.invariant.whole book

pub verdict-requires-clause-desk : goal.verdict-requires-clause-desk
verdict-requires-clause-desk c = c.self.invariant.whole desk

pub returns : goal.returns
returns c es at =
    let s = state_at c.args.self.now es in
    c.verdict.ensures s (subst (λ z. Fits z.hand s) (sym c.self.view_is) at.fits)
