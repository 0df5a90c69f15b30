use Rattle.snap_recover.proofs.Spots.{act_kept}
use Rattle.snap_recover.proofs.keeping.keep_act.Goals as goal

pub returns : goal.returns
returns c = let told = c.outcome_of-c.ensures in rw told.0 (act_kept c.args.logs.now c.args.spot _ _ _ told.1.0 c.requires.is_in c.requires.is_act told.1.1)
