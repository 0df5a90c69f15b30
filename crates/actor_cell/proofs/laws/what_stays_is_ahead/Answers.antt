use Rattle.actor_cell.proofs.Undoing.{stays_ahead}
use Rattle.actor_cell.proofs.laws.what_stays_is_ahead.Goals as goal

pub returns : goal.returns
returns c = stays_ahead
