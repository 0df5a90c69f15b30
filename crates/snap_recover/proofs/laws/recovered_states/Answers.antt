use Rattle.snap_recover.proofs.Recovered.{recovered_states, recovered_few}
use Rattle.snap_recover.proofs.laws.recovered_states.Goals as goal

pub returns-clause-states : goal.returns-clause-states
returns-clause-states c = recovered_states

pub returns-clause-few : goal.returns-clause-few
returns-clause-few c = recovered_few
