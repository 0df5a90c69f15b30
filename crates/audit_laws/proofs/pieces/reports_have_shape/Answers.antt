use Rattle.audit_laws.proofs.ReportsShape.{reports_have_shape}
use Rattle.audit_laws.proofs.pieces.reports_have_shape.Goals as goal

pub returns : goal.returns
returns g c = reports_have_shape
