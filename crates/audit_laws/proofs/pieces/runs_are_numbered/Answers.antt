use Rattle.audit_laws.proofs.RunsMeet.{runs_meet}
use Rattle.audit_laws.proofs.pieces.runs_are_numbered.Goals as goal

pub returns : goal.returns
returns g c = runs_meet
