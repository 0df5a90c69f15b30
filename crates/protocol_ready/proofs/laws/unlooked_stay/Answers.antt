use Rattle.protocol.specs.Runs.{reached}
use Rattle.protocol_ready.proofs.Revised.{unlooked}
use Rattle.protocol_ready.proofs.Sound.{sound}
use Rattle.protocol_ready.proofs.laws.unlooked_stay.Goals as goal

pub returns : goal.returns
returns g c w es e f text run al n = unlooked w e (reached w es) f (c.frame.ensures w) (sound w es c.numbers_are_drawn_once.ensures text run) al n
