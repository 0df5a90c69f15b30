use Rattle.gate_log.proofs.AppendExits.{append_gives, append_keeps}
use Rattle.gate_log.proofs.Marks.{append_keeps_mark}
use Rattle.gate_log.proofs.Upgrades.{append_keeps_format}
use Rattle.gate_log.proofs.laws.append_is_whole.Goals as goal

pub returns : goal.returns
returns c = record { gives = append_gives; keeps = append_keeps; format = append_keeps_format; mark = append_keeps_mark }
