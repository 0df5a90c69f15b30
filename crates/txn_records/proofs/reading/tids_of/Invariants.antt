use Rattle.std.proofs.Common.{◌-◌, ◌^◌}
use Rattle.snap_base.specs.declared.ids.Tid.{Tid}
use Rattle.txn_records.proofs.OneRecord.{tid_bytes}
use Rattle.txn_records.proofs.Lists.{Risings}
use Rattle.txn_records.proofs.SoFar.{RisingSoFar}
use Rattle.txn_records.proofs.reading.tids_of.Given as goal

abbrev pub invariant-loop-i : goal.invariant-loop-i
invariant-loop-i l = RisingSoFar (λ (x : Tid). x.0) tid_bytes (2 ^ 64) (Risings (λ (x : Tid). x.0) tid_bytes 0 (2 ^ 64) l.count) l.bytes l.rest l.tids l.low l.i (l.count - l.i)
