use Rattle.log_compact.proofs.OnDevices.{crashed_folds}
use Rattle.log_compact.proofs.laws.crashed_compaction_folds.Goals as goal

pub returns : goal.returns
returns c = crashed_folds c.compacting_keeps.ensures c.images_hold_moments.ensures
