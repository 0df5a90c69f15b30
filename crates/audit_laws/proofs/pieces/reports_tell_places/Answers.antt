use Rattle.audit_laws.proofs.ReportsPlaces.{places_told}
use Rattle.audit_laws.proofs.pieces.reports_tell_places.Goals as goal

pub returns : goal.returns
returns g c = places_told
