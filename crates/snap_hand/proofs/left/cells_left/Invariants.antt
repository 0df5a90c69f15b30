use Rattle.std.proofs.Common.{option_map}
use Rattle.protocol.proofs.Totals.{IsCounted}
use Rattle.protocol.specs.Left.{cell_left}
use Rattle.snap_hand.specs.Left.{of_part}
use Rattle.snap_hand.proofs.left.cells_left.Given as goal

abbrev pub invariant-loop-cell : goal.invariant-loop-cell
invariant-loop-cell g l = IsCounted (λ o. of_part (cell_left (g.W.Visits.code l.visits) (g.W.Visits.acts l.visits) l.epoch) (option_map (λ p. p.value.cell) o)) l.cells l.cell-index l.left
