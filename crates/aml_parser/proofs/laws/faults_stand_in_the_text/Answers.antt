use Rattle.aml_parser.proofs.Lines.{fault_stands}
use Rattle.aml_parser.proofs.laws.faults_stand_in_the_text.Goals as goal

pub returns : goal.returns
returns c = fault_stands c.args._text.now
