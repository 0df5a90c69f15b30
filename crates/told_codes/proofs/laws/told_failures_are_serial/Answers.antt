use Rattle.told_codes.proofs.FailedTold.{failures_stand}
use Rattle.told_codes.proofs.laws.told_failures_are_serial.Goals as goal

pub returns : goal.returns
returns g c = failures_stand
