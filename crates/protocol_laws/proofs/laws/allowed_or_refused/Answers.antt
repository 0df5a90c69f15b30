use Rattle.protocol_laws.proofs.first.FirstFalse.{allowed_or_refused}
use Rattle.protocol_laws.proofs.laws.allowed_or_refused.Goals as goal

pub returns : goal.returns
returns g c = allowed_or_refused
