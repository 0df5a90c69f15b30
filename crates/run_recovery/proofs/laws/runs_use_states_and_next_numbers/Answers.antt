use Rattle.run_recovery.proofs.Leading.{same_machine}
use Rattle.run_recovery.proofs.laws.runs_use_states_and_next_numbers.Goals as goal

pub returns : goal.returns
returns c = same_machine
