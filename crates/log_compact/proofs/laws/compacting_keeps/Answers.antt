use Rattle.log_compact.proofs.Moments.{compacting_keeps}
use Rattle.log_compact.proofs.laws.compacting_keeps.Goals as goal

pub returns : goal.returns
returns c = compacting_keeps c.begun_logs_are_recovered.ensures
