use Rattle.protocol_verdicts.proofs.evidence.EvidenceTold.{verdicts_tell}
use Rattle.protocol_verdicts.proofs.verdicts.verdicts_tell_of_serial_runs.Goals as goal

pub returns : goal.returns
returns g c = verdicts_tell
