use Rattle.run_recovery.proofs.SeveralRuns.{each_finds}
use Rattle.run_recovery.proofs.laws.each_run_finds_logs_as_runs_leave_them.Goals as goal

pub returns : goal.returns
returns c = each_finds
