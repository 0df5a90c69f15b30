use Rattle.std.proofs.Common.{vec_len}
use Rattle.crew_rows.proofs.rows.devices_of.Given as goal

abbrev pub decreases-loop-log : goal.decreases-loop-log
decreases-loop-log l = vec_len l.logs
