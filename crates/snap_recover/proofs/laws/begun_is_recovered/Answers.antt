use Rattle.snap_recover.proofs.Begun.{begun_is_recovered}
use Rattle.snap_recover.proofs.laws.begun_is_recovered.Goals as goal

pub returns : goal.returns
returns c = begun_is_recovered
