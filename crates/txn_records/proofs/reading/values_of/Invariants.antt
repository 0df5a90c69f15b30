use Rattle.std.proofs.Common.{◌-◌, FitsSigned}
use Rattle.std.specs.Int.{w64}
use Rattle.txn_records.specs.Records.{field_bytes}
use Rattle.txn_records.proofs.Lists.{Lists}
use Rattle.txn_records.proofs.SoFar.{ListSoFar}
use Rattle.txn_records.proofs.reading.values_of.Given as goal

abbrev pub invariant-loop-i : goal.invariant-loop-i
invariant-loop-i l = ListSoFar (FitsSigned w64) field_bytes (Lists (FitsSigned w64) field_bytes l.count) l.bytes l.rest l.values l.i (l.count - l.i)
