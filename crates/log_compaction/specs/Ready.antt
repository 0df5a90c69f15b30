-- What making a log ready for a checkpoint, and appending one, leave of it.
use Rattle.std.specs.Prelude.{◌≡◌, ℕ, ◌+◌, ◌==◌, ◌≤◌, ◌<◌, ◌⊎◌, if◌then◌else◌, false, List, [], ◌++◌, length}
use Rattle.snap_outside.specs.declared.devices.DevOp.{DevOp}
use Rattle.snap_outside.specs.Causes.{Rose}
use Rattle.snap_outside.specs.Disk.{AddsAll, AddsUpToFault}
use Rattle.gate_log.specs.Appends.{append_ops, clear_ops, upgrade_ops, end_behind}
use Rattle.gate_log.specs.Bytes.{FIRST_GATE}
use Rattle.gate_log.specs.Device.{HasFormat}
use Rattle.gate_log.specs.State.{LogState, log_at, IsUntouched}
use Rattle.txn_records.specs.declared.records.Record.{Record}
use Rattle.record_log.specs.Records.{spelled}
use Rattle.log_compact.specs.Sides.{IsDoneUpTo}
use Rattle.log_compaction.specs.declared.writes.CompactionNo.{CompactionNo}
use Rattle.log_compaction.specs.declared.writes.CompactionNo.TheVariants.{Device, Memory}

-- the log is of format 1 or 2, as what its device holds
pub record IsOfFormat (log : LogState) : Type 0 where
  pub formatted : HasFormat log.told log.format
  pub known : (log.format ≡ 1) ⊎ (log.format ≡ 2)

abbrev pub AreOfFormat : List LogState → Type 0
AreOfFormat logs = (l : ℕ) → l < length logs → IsOfFormat (log_at logs l)

-- ---- ready

-- the operations that make a log of this format one of format 2
abbrev pub second_ops : ℕ → List DevOp
second_ops format = if format == 1 then upgrade_ops else []

-- the operations that make a log, whose closed gate stands at `end`, one of format 2 that has no item
abbrev pub log_ready_ops : LogState → List DevOp
log_ready_ops log = clear_ops log.end ++ second_ops log.format

-- the log is of format 2
pub record IsSecond (old new : LogState) : Type 0 where
  pub adds : AddsAll old.told new.told (second_ops old.format)
  pub second : new.format ≡ 2
  pub gate : new.end ≡ old.end
  pub ready : new.shut ≡ false
  pub later : old.faults ≤ new.faults

-- it was to be made one of format 2, and its device failed
pub record IsNotSecond (old new : LogState) : Type 0 where
  pub adds : AddsUpToFault old.told new.told (second_ops old.format)
  pub rose : Rose old.faults new.faults
  pub later : old.faults ≤ new.faults

-- the log is of format 2, and has no item
pub record IsBlank (old new : LogState) : Type 0 where
  pub adds : AddsAll old.told new.told (log_ready_ops old)
  pub second : new.format ≡ 2
  pub gate : new.end ≡ FIRST_GATE
  pub ready : new.shut ≡ false
  pub later : old.faults ≤ new.faults

-- its device failed before it was so
pub record IsNotBlank (old new : LogState) : Type 0 where
  pub adds : AddsUpToFault old.told new.told (log_ready_ops old)
  pub rose : Rose old.faults new.faults
  pub later : old.faults ≤ new.faults

-- ---- with the group

-- the group is appended to the log, as a whole
pub record GetsGroup (group : List Record) (old new : LogState) : Type 0 where
  pub adds : AddsAll old.told new.told (append_ops old.end (spelled group))
  pub gate : new.end ≡ end_behind old.end (spelled group)
  pub format : new.format ≡ old.format
  pub ready : new.shut ≡ false
  pub later : old.faults ≤ new.faults

-- the append of the group met a failing device
pub record FailsGroup (group : List Record) (old new : LogState) : Type 0 where
  pub adds : AddsUpToFault old.told new.told (append_ops old.end (spelled group))
  pub rose : Rose old.faults new.faults
  pub later : old.faults ≤ new.faults

-- why the group is not appended to the log of this number; for want of memory its device got no call
abbrev pub IsAppendNo : ℕ → List Record → LogState → LogState → CompactionNo → Type 0
IsAppendNo number group old new (Device log) = (log ≡ number) × FailsGroup group old new
IsAppendNo number group old new Memory = IsUntouched old new

-- the same of this log among others, which got no call
abbrev pub AreAppendNo : ℕ → List Record → List LogState → List LogState → CompactionNo → Type 0
AreAppendNo number group old new (Device log) = (log ≡ number) × IsDoneUpTo (GetsGroup group) (FailsGroup group) number (number + 1) number old new
AreAppendNo number group old new Memory = (l : ℕ) → IsUntouched (log_at old l) (log_at new l)
