use Rattle.snap_hand.proofs.Numbered.{put_back}
use Rattle.snap_hand.proofs.part_laws.taken_is_put_back.Goals as goal

pub returns : goal.returns
returns c = put_back
