use Rattle.protocol_ready.proofs.Revised.{found_enabled}
use Rattle.protocol_ready.proofs.laws.enabled_is_found.Goals as goal

pub returns : goal.returns
returns g c w s es all = found_enabled w s es (c.allowed_or_refused.ensures w) all
