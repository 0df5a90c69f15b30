use Rattle.protocol_ready.proofs.TouchedEvents.{untouched}
use Rattle.protocol_ready.proofs.laws.untouched_stay.Goals as goal

pub returns : goal.returns
returns g c w s = untouched w s (c.frame.ensures w)
