use Rattle.aml_parser.proofs.Texts.{no_program}
use Rattle.aml_parser.proofs.laws.faulty.Goals as goal

pub returns : goal.returns
returns c = no_program
