use Rattle.core_rows.proofs.RunsOn.{goes_on}
use Rattle.core_rows.proofs.laws.runs_go_on.Goals as goal

pub returns : goal.returns
returns g c w e s r ok = goes_on w e s r ok
