use Rattle.audit_laws.proofs.PlacesTold.{order_told}
use Rattle.audit_laws.proofs.pieces.chains_tell_order.Goals as goal

pub returns : goal.returns
returns c = order_told
