use Rattle.std.proofs.Common.{◌≡◌, ◌-◌, length, take, FitsSigned}
use Rattle.std.specs.Int.{w64}
use Rattle.txn_records.specs.Records.{field_bytes}
use Rattle.txn_records.proofs.Parts.{Fields}
use Rattle.txn_records.proofs.SoFar.{ListSoFar}
use Rattle.txn_records.proofs.reading.state_of.Given as goal

abbrev pub invariant-loop-i : goal.invariant-loop-i
invariant-loop-i l = ListSoFar (FitsSigned w64) field_bytes Fields l.bytes l.rest (take l.i l.fields) l.i (16 - l.i) × (length l.fields ≡ 16)
