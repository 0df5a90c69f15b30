use Rattle.std.proofs.Common.{◌+◌, sym, subst}
use Rattle.snap_hand.specs.Hands.{Has}
use Rattle.footprint_rows.proofs.Moved.{has_it}
use Rattle.footprint_rows.proofs.steps.state_on.Goals as goal

pub state-requires-clause-cell : goal.state-requires-clause-cell
state-requires-clause-cell c =
    subst (λ n. Has c.args.hand.now (4 + n + c.args.a.0)) (sym c.requires.logs)
    (subst (Has c.args.hand.now) c.part_of_cell.ensures (has_it c.args.hand.now c.part_of_cell.result c.has.result c.has.ensures c.if-not-has.false))
