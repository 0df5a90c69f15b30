use Rattle.protocol.specs.Runs.{reached}
use Rattle.protocol_ready.proofs.Renewed.{renewed}
use Rattle.protocol_ready.proofs.Sound.{sound}
use Rattle.protocol_ready.proofs.refusing.renewed_are_enabled.Goals as goal

pub returns : goal.returns
returns g c w finish es facts text run e old new al =
    renewed w e (reached w es) old new (c.frame.ensures w) (c.allowed_or_refused.ensures w) (sound w es c.numbers_are_drawn_once.ensures text run) al
    (λ f. c.out_of_reach_stay.ensures w finish es facts text run e f al)
