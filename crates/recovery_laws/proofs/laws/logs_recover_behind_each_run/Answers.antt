use Rattle.recovery_laws.proofs.RunsAgain.{again}
use Rattle.recovery_laws.proofs.laws.logs_recover_behind_each_run.Goals as goal

pub returns : goal.returns
returns g c earlier o xs h go = again c.logs_recover_to_the_members.ensures earlier o xs h go
