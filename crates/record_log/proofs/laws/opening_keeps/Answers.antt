use Rattle.record_log.proofs.Holding.{opened_keeps}
use Rattle.record_log.proofs.laws.opening_keeps.Goals as goal

pub returns : goal.returns
returns c = opened_keeps c.one_list.ensures c.images_of_settled.ensures
