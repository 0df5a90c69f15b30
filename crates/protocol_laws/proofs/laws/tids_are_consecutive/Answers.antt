use Rattle.protocol.specs.Runs.{opening}
use Rattle.protocol_laws.proofs.first.Drawn.{tids_consecutive}
use Rattle.protocol_laws.proofs.laws.tids_are_consecutive.Goals as goal

pub returns : goal.returns
returns g c = λ w es run. tids_consecutive w es (opening w) run
