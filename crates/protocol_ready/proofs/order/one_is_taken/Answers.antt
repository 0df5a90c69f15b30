use Rattle.protocol_ready.proofs.Revised.{from_without, in_without}
use Rattle.protocol_ready.proofs.order.one_is_taken.Goals as goal

pub returns-clause-others : goal.returns-clause-others
returns-clause-others c = from_without

pub returns-clause-kept : goal.returns-clause-kept
returns-clause-kept c = in_without
