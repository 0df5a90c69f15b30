use Rattle.work_text.proofs.OneWork.{faults_same}
use Rattle.work_text.proofs.laws.one_first_fault.Goals as goal

pub returns : goal.returns
returns c = faults_same c.one_reading.ensures
