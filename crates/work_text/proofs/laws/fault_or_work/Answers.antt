use Rattle.work_text.proofs.OneWork.{work_or_fault}
use Rattle.work_text.proofs.laws.fault_or_work.Goals as goal

pub returns : goal.returns
returns c = work_or_fault c.one_reading.ensures
