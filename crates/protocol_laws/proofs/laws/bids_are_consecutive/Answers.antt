use Rattle.protocol.specs.Runs.{opening}
use Rattle.protocol_laws.proofs.first.Drawn.{bids_consecutive}
use Rattle.protocol_laws.proofs.laws.bids_are_consecutive.Goals as goal

pub returns : goal.returns
returns g c = λ w es run. bids_consecutive w es (opening w) run
