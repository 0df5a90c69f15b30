use Rattle.std.proofs.Common.{ap, sym, subst}
use Rattle.snap_hand.specs.Steps.{OnSomeRun}
use Rattle.snap_hand.specs.Tables.{fixed_of}
use Rattle.crew_grip.specs.Grips.{GripState}
use Rattle.crew_grip.proofs.HandsHold.{on_some_run}
use Rattle.crew_grip.proofs.grips.Grip.offers.Goals as goal

pub offers-requires-clause-some : goal.offers-requires-clause-some
offers-requires-clause-some g c =
    let now = c.requires.held in
    subst (λ u. OnSomeRun (fixed_of u) c.self.inside.hand) (sym c.tables.ensures)
    (subst (OnSomeRun (fixed_of c.args.turns.now.table.shared.key.tables.value)) (sym (ap (λ (g : GripState). g.hand) c.self.view_is)) (on_some_run (fixed_of c.args.turns.now.table.shared.key.tables.value) c.args.turns.now.table.shared.key.parts.value.items now.held c.args.self.now now.stands now.grip))
