use Rattle.batch_table.proofs.Planning.{planned_may_join}
use Rattle.batch_table.proofs.laws.planned_batch_may_join.Goals as goal

pub returns : goal.returns
returns g c = planned_may_join
