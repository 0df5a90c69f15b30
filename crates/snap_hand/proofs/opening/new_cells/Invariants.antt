use Rattle.std.proofs.Common.{◌≡◌, Some, map, option_map, take}
use Rattle.protocol.specs.Runs.{new_cell}
use Rattle.snap_hand.proofs.opening.new_cells.Given as goal

abbrev pub invariant-loop-state : goal.invariant-loop-state
invariant-loop-state l = map (option_map (λ x. x.value.cell)) l.cells.items ≡ map (λ s. Some (new_cell l.first.0 s)) (take l.state-index l.states)
