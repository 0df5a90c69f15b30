use Rattle.log_reading.proofs.Opening.{read_opened}
use Rattle.log_reading.proofs.laws.read_is_opened.Goals as goal

pub returns : goal.returns
returns c = read_opened
