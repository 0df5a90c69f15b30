use Rattle.protocol_theorems.proofs.sets.NumbersStand.{numbers_stand}
use Rattle.protocol_theorems.proofs.theorems.numbers_are_the_ends_of_sets.Goals as goal

pub returns : goal.returns
returns g c = numbers_stand
