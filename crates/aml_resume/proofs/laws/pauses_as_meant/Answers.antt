use Rattle.aml_resume.proofs.PausesFrom.{as_meant}
use Rattle.aml_resume.proofs.laws.pauses_as_meant.Goals as goal

pub returns : goal.returns
returns c = as_meant
