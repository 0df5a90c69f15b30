use Rattle.compact_laws.proofs.RunsOnSets.{set_stays}
use Rattle.compact_laws.proofs.laws.set_stays.Goals as goal

pub returns : goal.returns
returns c = set_stays
