use Rattle.protocol_theorems.proofs.quiet.RunsEnd.{runs_end}
use Rattle.protocol_theorems.proofs.theorems.every_run_ends.Goals as goal

pub returns : goal.returns
returns g c = runs_end
