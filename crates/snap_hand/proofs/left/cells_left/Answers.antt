use Rattle.std.proofs.Common.{arith, option_map}
use Rattle.protocol.proofs.Totals.{counted_all}
use Rattle.protocol.specs.Left.{cell_left}
use Rattle.snap_hand.specs.Left.{of_part}
use Rattle.snap_hand.proofs.left.cells_left.Goals as goal

pub returns : goal.returns
returns g c = counted_all (λ o. of_part (cell_left (g.W.Visits.code c.args.visits.now) (g.W.Visits.acts c.args.visits.now) c.args.epoch) (option_map (λ p. p.value.cell) o)) c.args.cells.now c.loop-cell.cell-index c.loop-cell.left (omega arith) c.loop-cell.invariant
