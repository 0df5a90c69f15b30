use Rattle.gate_log.proofs.ClearLogs.{clear_gives, clear_keeps, clear_keeps_format}
use Rattle.gate_log.proofs.Marks.{clear_keeps_mark}
use Rattle.gate_log.proofs.laws.clear_is_safe.Goals as goal

pub returns : goal.returns
returns c = record { gives = clear_gives; keeps = clear_keeps; format = clear_keeps_format; mark = clear_keeps_mark }
