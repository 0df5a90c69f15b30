use Rattle.work_text.proofs.KeptWorks.{kept_work}
use Rattle.work_text.proofs.laws.transactions_may_run.Goals as goal

pub returns : goal.returns
returns c = kept_work c.checked_programs_are_closed.ensures
