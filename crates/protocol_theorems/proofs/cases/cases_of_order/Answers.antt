use Rattle.protocol_theorems.proofs.order.CasesHold.{cases_hold}
use Rattle.protocol_theorems.proofs.cases.cases_of_order.Goals as goal

pub returns : goal.returns
returns g c = cases_hold
