use Rattle.snap_core.proofs.Together.{one_core}
use Rattle.snap_core.proofs.parting.one_core_of_parts.Goals as goal

pub returns : goal.returns
returns c = one_core c.places_tell_the_hand.ensures
