use Rattle.log_compact.proofs.Moments.{clearing_keeps}
use Rattle.log_compact.proofs.laws.clearing_keeps.Goals as goal

pub returns : goal.returns
returns c = clearing_keeps
