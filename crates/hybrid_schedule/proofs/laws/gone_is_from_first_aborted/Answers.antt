use Rattle.hybrid_schedule.proofs.Cutting.{going_by_number}
use Rattle.hybrid_schedule.proofs.laws.gone_is_from_first_aborted.Goals as goal

pub returns : goal.returns
returns c = going_by_number
