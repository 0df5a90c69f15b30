use Rattle.compact_laws.proofs.RunsOnSets.{used_stays}
use Rattle.compact_laws.proofs.laws.used_stays.Goals as goal

pub returns : goal.returns
returns c = used_stays c.set_stays.ensures
