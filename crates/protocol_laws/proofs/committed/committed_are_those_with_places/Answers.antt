use Rattle.protocol_laws.proofs.machine.CommittedTold.{committed_told}
use Rattle.protocol_laws.proofs.committed.committed_are_those_with_places.Goals as goal

pub returns : goal.returns
returns g c = committed_told
