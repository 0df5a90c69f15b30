use Rattle.aml_parser.proofs.Texts.{one_spelled}
use Rattle.aml_parser.proofs.laws.one_program.Goals as goal

pub returns : goal.returns
returns c = one_spelled
