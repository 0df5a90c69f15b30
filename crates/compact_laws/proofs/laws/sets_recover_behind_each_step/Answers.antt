use Rattle.compact_laws.proofs.StepsStand.{steps}
use Rattle.compact_laws.proofs.laws.sets_recover_behind_each_step.Goals as goal

pub returns : goal.returns
returns g c = steps c.recovered_transactions_are_in_order.ensures c.logs_recover_from_greater_numbers.ensures c.clearing_keeps.ensures c.compacting_keeps.ensures c.one_use.ensures c.one_fold.ensures
