use Rattle.turn_table.proofs.Later.{left}
use Rattle.turn_table.proofs.laws.what_is_held_is_left.Goals as goal

pub returns : goal.returns
returns g c start s t i j k l later on = left _ _ start s t k l later i j on
