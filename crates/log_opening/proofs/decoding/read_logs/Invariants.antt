use Rattle.std.proofs.Common.{take}
use Rattle.std.specs.List.{AllZip}
use Rattle.record_log.specs.Records.{AreItemsOf}
use Rattle.log_opening.proofs.decoding.read_logs.Given as goal

abbrev pub invariant-loop-number : goal.invariant-loop-number
invariant-loop-number l = AllZip AreItemsOf (take l.number l.found) l.lists
