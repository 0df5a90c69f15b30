use Rattle.protocol_ready.proofs.Ordered.{below_apart, below_through, below_same}
use Rattle.protocol_ready.proofs.order.ranks_are_in_order.Goals as goal

pub returns-clause-apart : goal.returns-clause-apart
returns-clause-apart c = below_apart

pub returns-clause-through : goal.returns-clause-through
returns-clause-through c = below_through

pub returns-clause-same : goal.returns-clause-same
returns-clause-same c = below_same
