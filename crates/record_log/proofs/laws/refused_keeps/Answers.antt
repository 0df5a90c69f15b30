use Rattle.record_log.proofs.Holding.{refused_keeps}
use Rattle.record_log.proofs.laws.refused_keeps.Goals as goal

pub returns : goal.returns
returns c = refused_keeps c.one_list.ensures c.images_of_settled.ensures
