use Rattle.std.proofs.Common.{◌-◌, ◌^◌}
use Rattle.snap_base.specs.declared.ids.ActorId.{ActorId}
use Rattle.txn_records.proofs.OneRecord.{actor_bytes}
use Rattle.txn_records.proofs.Lists.{Risings}
use Rattle.txn_records.proofs.SoFar.{RisingSoFar}
use Rattle.txn_records.proofs.reading.actors_of.Given as goal

abbrev pub invariant-loop-i : goal.invariant-loop-i
invariant-loop-i l = RisingSoFar (λ (x : ActorId). x.0) actor_bytes (2 ^ 16) (Risings (λ (x : ActorId). x.0) actor_bytes 0 (2 ^ 16) l.count) l.bytes l.rest l.actors l.low l.i (l.count - l.i)
