use Rattle.aml_resolver.proofs.FaultLines.{first_stands}
use Rattle.aml_resolver.proofs.laws.faults_stand_in_the_program.Goals as goal

pub returns : goal.returns
returns c = first_stands c.args._most
