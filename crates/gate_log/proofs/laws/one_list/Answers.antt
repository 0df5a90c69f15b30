use Rattle.gate_log.proofs.OneReading.{one_list}
use Rattle.gate_log.proofs.laws.one_list.Goals as goal

pub returns : goal.returns
returns c = one_list
