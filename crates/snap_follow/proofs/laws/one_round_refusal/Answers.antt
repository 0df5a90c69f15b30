use Rattle.snap_follow.proofs.OneRefusal.{one_refusal}
use Rattle.snap_follow.proofs.laws.one_round_refusal.Goals as goal

pub returns : goal.returns
returns c = one_refusal c.one_refusal.ensures
