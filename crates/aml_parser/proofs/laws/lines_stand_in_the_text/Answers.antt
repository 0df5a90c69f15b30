use Rattle.aml_parser.proofs.Lines.{lines_stand}
use Rattle.aml_parser.proofs.laws.lines_stand_in_the_text.Goals as goal

pub returns : goal.returns
returns c = lines_stand c.args._text.now
