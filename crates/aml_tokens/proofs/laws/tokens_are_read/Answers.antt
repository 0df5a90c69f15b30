use Rattle.aml_tokens.proofs.WrittenBack.{written_ascii, written_back}
use Rattle.aml_tokens.proofs.laws.tokens_are_read.Goals as goal

pub returns-clause-ascii : goal.returns-clause-ascii
returns-clause-ascii c = written_ascii

pub returns-clause-read : goal.returns-clause-read
returns-clause-read c = written_back
