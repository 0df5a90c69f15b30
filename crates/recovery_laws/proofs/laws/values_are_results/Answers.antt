use Rattle.recovery_laws.proofs.RunsAgain.{values_are_results}
use Rattle.recovery_laws.proofs.laws.values_are_results.Goals as goal

pub returns : goal.returns
returns g c earlier o xs h go = values_are_results c.logs_recover_to_the_members.ensures earlier o xs h go
