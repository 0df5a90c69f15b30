use Rattle.protocol_theorems.proofs.quiet.FindRoom.{all_find_room}
use Rattle.protocol_theorems.proofs.actors.what_is_new_is_not_there.Goals as goal

pub returns : goal.returns
returns g c = all_find_room
