use Rattle.std.proofs.Common.{take}
use Rattle.run_opening.specs.Begins.{AreEmpty}
use Rattle.run_opening.proofs.starts.all_empty.Given as goal

abbrev pub invariant-loop-records : goal.invariant-loop-records
invariant-loop-records l = AreEmpty (take l.records-index l.logs)
