use Rattle.std.proofs.Common.{◌≤◌, take}
use Rattle.std.specs.List.{AllByRecursion}
use Rattle.txn_records.specs.Records.{tid_numbers}
use Rattle.snap_recover.specs.declared.ranges.TheConstants.{GREATEST_NUMBER}
use Rattle.snap_recover.proofs.ranges.all_tids_within.Given as goal

abbrev pub invariant-loop-t : goal.invariant-loop-t
invariant-loop-t l = AllByRecursion (λ n. n ≤ GREATEST_NUMBER) (tid_numbers (take l.t-index l.tids))
