use Rattle.actor_cell.proofs.Undoing.{undone_as_cut}
use Rattle.actor_cell.proofs.laws.undoing_is_rollback.Goals as goal

pub returns : goal.returns
returns c = undone_as_cut
