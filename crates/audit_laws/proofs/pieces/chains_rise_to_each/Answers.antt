use Rattle.audit_laws.proofs.ChainsRise.{rise_to}
use Rattle.audit_laws.proofs.pieces.chains_rise_to_each.Goals as goal

pub returns : goal.returns
returns c = rise_to
