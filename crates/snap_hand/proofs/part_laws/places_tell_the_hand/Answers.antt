use Rattle.snap_hand.proofs.OneHand.{one_hand}
use Rattle.snap_hand.proofs.part_laws.places_tell_the_hand.Goals as goal

pub returns : goal.returns
returns c = one_hand
