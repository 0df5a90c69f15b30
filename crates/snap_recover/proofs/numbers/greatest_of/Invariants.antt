use Rattle.std.proofs.Common.{◌≡◌, take}
use Rattle.txn_records.specs.Records.{tid_numbers}
use Rattle.snap_recover.specs.Opening.{greatest}
use Rattle.snap_recover.proofs.numbers.greatest_of.Given as goal

abbrev pub invariant-loop-tid : goal.invariant-loop-tid
invariant-loop-tid l = l.most ≡ greatest (tid_numbers (take l.tid-index l.tids))
