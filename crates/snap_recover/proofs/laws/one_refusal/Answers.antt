use Rattle.snap_recover.proofs.OneRefusal.{one_refusal}
use Rattle.snap_recover.proofs.laws.one_refusal.Goals as goal

pub returns : goal.returns
returns c = one_refusal
