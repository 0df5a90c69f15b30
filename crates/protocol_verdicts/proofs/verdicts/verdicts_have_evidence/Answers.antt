use Rattle.protocol_verdicts.proofs.evidence.EvidenceRuns.{verdicts_stand}
use Rattle.protocol_verdicts.proofs.verdicts.verdicts_have_evidence.Goals as goal

pub returns : goal.returns
returns g c = verdicts_stand
