use Rattle.protocol_theorems.proofs.quiet.QuietLaw.{order_law}
use Rattle.protocol_theorems.proofs.theorems.committed_transactions_are_in_order.Goals as goal

pub returns : goal.returns
returns g c = order_law
