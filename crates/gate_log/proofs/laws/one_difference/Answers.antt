use Rattle.gate_log.proofs.ReadingHeader.{differs_is_no_log, differs_is_no_damage, differs_once}
use Rattle.gate_log.proofs.laws.one_difference.Goals as goal

pub returns : goal.returns
returns c = record { no_log = differs_is_no_log; no_damage = differs_is_no_damage; once = differs_once }
