use Rattle.gate_log.proofs.OneReading.{reading}
use Rattle.gate_log.proofs.laws.one_reading.Goals as goal

pub returns : goal.returns
returns c = reading
