use Rattle.protocol_laws.proofs.first.Drawn.{numbers_drawn_once}
use Rattle.protocol_laws.proofs.laws.numbers_are_drawn_once.Goals as goal

pub returns : goal.returns
returns g c = numbers_drawn_once
