use Rattle.gate_log.proofs.AppendBytes.{log_of}
use Rattle.gate_log.proofs.OpenDisks.{placed_log}
use Rattle.gate_log.proofs.laws.logs_are_lists.Goals as goal

pub returns : goal.returns
returns c = record { at = log_of; placed = placed_log }
