use Rattle.record_log.proofs.Growing.{opening_grows, group_grows, fault_grows, end_more}
use Rattle.record_log.proofs.growth.history_grows.Goals as goal

pub returns : goal.returns
returns c = record { opening = opening_grows c.opening_is_safe.ensures.adds; group = group_grows; fault = fault_grows; end = end_more }
