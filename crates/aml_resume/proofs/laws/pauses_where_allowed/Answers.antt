use Rattle.aml_resume.proofs.PausedPlaces.{where_allowed}
use Rattle.aml_resume.proofs.laws.pauses_where_allowed.Goals as goal

pub returns : goal.returns
returns c = where_allowed
