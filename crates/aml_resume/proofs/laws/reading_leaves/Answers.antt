use Rattle.aml_resume.proofs.Leaving as leaving
use Rattle.aml_resume.proofs.laws.reading_leaves.Goals as goal

pub returns : goal.returns
returns c = leaving.reading_leaves
