use Rattle.std.proofs.Common.{take}
use Rattle.log_compact.specs.Sets.{HasNoStray}
use Rattle.log_compact.proofs.strays.first_stray.Given as goal

abbrev pub invariant-loop-log : goal.invariant-loop-log
invariant-loop-log l = HasNoStray (take l.log l.lists)
