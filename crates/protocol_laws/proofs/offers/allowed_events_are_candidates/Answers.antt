use Rattle.protocol_laws.proofs.first.Candidates.{allowed_is_candidate}
use Rattle.protocol_laws.proofs.offers.allowed_events_are_candidates.Goals as goal

pub returns : goal.returns
returns g c = allowed_is_candidate
