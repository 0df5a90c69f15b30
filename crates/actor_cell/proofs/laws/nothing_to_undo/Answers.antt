use Rattle.actor_cell.proofs.Undoing.{nothing_undone}
use Rattle.actor_cell.proofs.laws.nothing_to_undo.Goals as goal

pub returns : goal.returns
returns c = nothing_undone
