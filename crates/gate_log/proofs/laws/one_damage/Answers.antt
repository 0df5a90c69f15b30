use Rattle.gate_log.proofs.ReadingGroups.{damaged_once}
use Rattle.gate_log.proofs.laws.one_damage.Goals as goal

pub returns : goal.returns
returns c = damaged_once
