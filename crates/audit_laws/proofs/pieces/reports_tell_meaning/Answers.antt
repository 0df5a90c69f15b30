use Rattle.audit_laws.proofs.ReportsMeaning.{reports_tell_meaning}
use Rattle.audit_laws.proofs.pieces.reports_tell_meaning.Goals as goal

pub returns : goal.returns
returns g c = reports_tell_meaning
