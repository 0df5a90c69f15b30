-- What the writes of a compaction come to, on the devices of four open logs.
use Rattle.std.specs.Prelude.{◌≡◌, ◌≢◌, ℕ, ◌<◌, ◌≤◌, ◌⊎◌, List, [], ◌++◌, Some, ⊤}
use Rattle.snap_outside.specs.declared.devices.DevOp.{DevOp}
use Rattle.snap_outside.specs.Causes.{Rose}
use Rattle.snap_outside.specs.Disk.{with_ops, AddsAll}
use Rattle.gate_log.specs.Appends.{clear_ops}
use Rattle.gate_log.specs.State.{LogState, log_at}
use Rattle.txn_records.specs.declared.records.Record.{Record}
use Rattle.log_compact.specs.Compacting.{other_side, IsOnSide}
use Rattle.log_compact.specs.OnDevices.{OpenDevice, cleared_ops, ready_ops, group_ops, AreMade}
use Rattle.log_compaction.specs.Ready.{log_ready_ops}
use Rattle.log_compaction.specs.declared.writes.CompactionNo.{CompactionNo}
use Rattle.log_compaction.specs.declared.writes.CompactionNo.TheVariants.{Device, Memory}

-- the four logs are open on these devices, each of which tells its history
pub record AreOn (logs : List LogState) (devices : ℕ → OpenDevice) : Type 0 where
  pub told : (d : ℕ) → d < 4 → (log_at logs d).told ≡ Some (devices d).history
  pub ends : (d : ℕ) → d < 4 → (log_at logs d).end ≡ (devices d).end

-- the devices tell these operations more
abbrev pub TellMore : (ℕ → OpenDevice) → List LogState → (ℕ → List DevOp) → Type 0
TellMore devices new made = (d : ℕ) → d < 4 → (log_at new d).told ≡ Some (with_ops (devices d).history (made d))

-- Whatever it came to: the operations that were made are those of some moment of a compaction, in its order.
pub record WritesSoFar (devices : ℕ → OpenDevice) (new : List LogState) (head logs : ℕ) (group : List Record) : Type 0 where
  pub made : ℕ → List DevOp
  pub told : TellMore devices new made
  pub moment : AreMade devices made head (other_side head logs) logs group

-- all operations of a compaction are made
pub record AreAllMade (devices : ℕ → OpenDevice) (made : ℕ → List DevOp) (head other logs : ℕ) (group : List Record) : Type 0 where
  -- the group stands in the first log of the other side
  pub first : made other ≡ ready_ops (devices other) ++ group_ops group
  -- its other logs are ready
  pub side : (d : ℕ) → IsOnSide other logs d → d ≢ other → made d ≡ ready_ops (devices d)
  -- those of the old side are cleared
  pub old : (d : ℕ) → IsOnSide head logs d → made d ≡ cleared_ops (devices d)
  -- and all others got no call
  pub rest : (d : ℕ) → ¬ IsOnSide other logs d → ¬ IsOnSide head logs d → made d ≡ []

-- Nothing failed: all operations are made.
pub record IsAllWritten (devices : ℕ → OpenDevice) (new : List LogState) (head logs : ℕ) (group : List Record) : Type 0 where
  pub made : ℕ → List DevOp
  pub told : TellMore devices new made
  pub whole : AreAllMade devices made head (other_side head logs) logs group

-- Nothing failed: each device of the two sides got all its operations, whether the others tell theirs or not.
pub record AreAllDone (before after : List LogState) (head other logs : ℕ) (group : List Record) : Type 0 where
  pub first : AddsAll (log_at before other).told (log_at after other).told (log_ready_ops (log_at before other) ++ group_ops group)
  pub side : (d : ℕ) → IsOnSide other logs d → d ≢ other → AddsAll (log_at before d).told (log_at after d).told (log_ready_ops (log_at before d))
  pub old : (d : ℕ) → IsOnSide head logs d → AddsAll (log_at before d).told (log_at after d).told (clear_ops (log_at before d).end)

-- the device of a log of the two sides failed; or there was no memory
abbrev pub IsWriteCause : List LogState → List LogState → ℕ → ℕ → CompactionNo → Type 0
IsWriteCause old new head logs (Device log) =
    (IsOnSide head logs log ⊎ IsOnSide (other_side head logs) logs log) × Rose (log_at old log).faults (log_at new log).faults
IsWriteCause old new head logs Memory = ⊤

-- no fault is forgotten
abbrev pub AreLater : List LogState → List LogState → Type 0
AreLater old new = (l : ℕ) → (log_at old l).faults ≤ (log_at new l).faults
