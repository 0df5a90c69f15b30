use Rattle.aml_tokens.proofs.ReadBack.{read_back}
use Rattle.aml_tokens.proofs.laws.written_is_read.Goals as goal

pub returns : goal.returns
returns c = read_back
