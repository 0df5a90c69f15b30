use Rattle.hybrid_schedule.proofs.Cutting.{cut_by_number}
use Rattle.hybrid_schedule.proofs.laws.cut_is_at_first_aborted.Goals as goal

pub returns : goal.returns
returns c = cut_by_number
