use Rattle.gate_log.proofs.ReadingGroups.{damaged_or_log}
use Rattle.gate_log.proofs.laws.damage_is_no_log.Goals as goal

pub returns : goal.returns
returns c = damaged_or_log
