use Rattle.std.proofs.Common.{take}
use Rattle.std.specs.List.{AllByRecursion}
use Rattle.record_log.specs.txn_records.Records.{IsState}
use Rattle.run_effects.proofs.drives.each_fits.Given as goal

-- those so far may stand in records
abbrev pub invariant-loop-state : goal.invariant-loop-state
invariant-loop-state l = AllByRecursion IsState (take l.state-index l.states)
