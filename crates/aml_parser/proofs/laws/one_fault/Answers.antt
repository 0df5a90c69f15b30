use Rattle.aml_parser.proofs.Texts.{one_first}
use Rattle.aml_parser.proofs.laws.one_fault.Goals as goal

pub returns : goal.returns
returns c = one_first
