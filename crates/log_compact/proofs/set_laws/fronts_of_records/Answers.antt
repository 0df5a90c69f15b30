use Rattle.log_compact.proofs.OneFront.{fronts_of_records}
use Rattle.log_compact.proofs.set_laws.fronts_of_records.Goals as goal

pub returns : goal.returns
returns c = fronts_of_records c.one_front.ensures c.one_list.ensures
