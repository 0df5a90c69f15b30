use Rattle.protocol_laws.proofs.first.Ordered.{enabled}
use Rattle.protocol_laws.proofs.offers.allowed_candidates_are_enabled.Goals as goal

pub returns : goal.returns
returns g c = enabled
