use Rattle.aml_resolver.proofs.ClosedPrograms.{closed_checked}
use Rattle.aml_resolver.proofs.laws.checked_programs_are_closed.Goals as goal

pub returns : goal.returns
returns c = closed_checked
