use Rattle.std.proofs.Common.{◌≡◌, ◌++◌, take}
use Rattle.txn_records.specs.Records.{tids_bytes}
use Rattle.txn_records.proofs.encoding.put_tids.Given as goal

abbrev pub invariant-loop-tid : goal.invariant-loop-tid
invariant-loop-tid l = l.out.items ≡ l.fn.out.items ++ tids_bytes (take l.tid-index l.tids)
