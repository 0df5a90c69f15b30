use Rattle.work_text.proofs.OneWork.{works_same}
use Rattle.work_text.proofs.laws.one_work.Goals as goal

pub returns : goal.returns
returns c = works_same c.one_reading.ensures
