use Rattle.protocol_ready.proofs.Sound.{sound}
use Rattle.protocol_ready.proofs.laws.states_are_sound.Goals as goal

pub returns : goal.returns
returns g c w es text run = sound w es c.numbers_are_drawn_once.ensures text run
