use Rattle.input_laws.proofs.OneFault.{same_run}
use Rattle.input_laws.proofs.once.one_run.Goals as goal

pub returns : goal.returns
returns c = same_run c.parts_are_one.ensures.once c.one_work.ensures c.one_trace.ensures c.one_report.ensures
