use Rattle.protocol_laws.proofs.first.Ordered.{filtered}
use Rattle.protocol_ready.proofs.Ordered.{ascends_put}
use Rattle.protocol_ready.proofs.order.events_stay_in_order.Goals as goal

pub returns-clause-put : goal.returns-clause-put
returns-clause-put c = ascends_put

pub returns-clause-without : goal.returns-clause-without
returns-clause-without c e es = filtered _ es
