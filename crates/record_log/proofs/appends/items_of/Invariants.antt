use Rattle.std.proofs.Common.{◌≡◌, take}
use Rattle.record_log.specs.Records.{spelled}
use Rattle.record_log.proofs.appends.items_of.Given as goal

abbrev pub invariant-loop-record : goal.invariant-loop-record
invariant-loop-record l = l.items ≡ spelled (take l.record-index l.records)
