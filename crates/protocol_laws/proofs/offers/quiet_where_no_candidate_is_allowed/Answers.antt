use Rattle.protocol_laws.proofs.first.Candidates.{quiet}
use Rattle.protocol_laws.proofs.offers.quiet_where_no_candidate_is_allowed.Goals as goal

pub returns : goal.returns
returns g c = quiet
