use Rattle.snap_work.specs.Works.{work_of}
use Rattle.audited_runs.proofs.InOrder.{in_order}
use Rattle.audited_runs.proofs.runs.runs_are_in_order.Goals as goal

pub returns : goal.returns
returns c = λ u text trace report first out. in_order c.one_command.ensures c.one_work.ensures (work_of c.args.work.now) c.work_runs_are_in_order.ensures u text trace report first out.answer
