use Rattle.protocol_laws.proofs.first.SettlingKept.{batches_settle_in_order}
use Rattle.protocol_laws.proofs.laws.batches_settle_in_order.Goals as goal

pub returns : goal.returns
returns g c = batches_settle_in_order
