use Rattle.protocol_ready.specs.Lying.{live}
use Rattle.protocol_ready.proofs.Listing.{from_has}
use Rattle.protocol_ready.proofs.AllListed.{live_all}
use Rattle.protocol_ready.proofs.laws.allowed_lies_there.Goals as goal

pub returns : goal.returns
returns g c w s f ok = from_has (live w s) f (live_all w s f ok)
