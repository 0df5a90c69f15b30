use Rattle.gate_log.proofs.Beginnings.{begun_gives, begun_keeps}
use Rattle.gate_log.proofs.Marks.{begun_recent, begun_second}
use Rattle.gate_log.proofs.laws.beginning_is_safe.Goals as goal

pub returns : goal.returns
returns c = record { gives = begun_gives; keeps = begun_keeps; second = begun_second; recent = begun_recent }
