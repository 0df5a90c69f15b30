-- The devices while a set is compacted: which operations are made at each moment, and what each choice of images holds.
use Rattle.std.specs.Prelude.{◌≡◌, ◌≢◌, ℕ, ◌⊎◌, List, [], ◌++◌}
use Rattle.snap_outside.specs.declared.devices.DevOp.{DevOp}
use Rattle.snap_outside.specs.Disk.{DeviceHistory, disk, disk_after, content, IsImage}
use Rattle.gate_log.specs.Appends.{append_ops, clear_ops, upgrading_ops}
use Rattle.gate_log.specs.Bytes.{FIRST_GATE}
use Rattle.txn_records.specs.declared.records.Record.{Record}
use Rattle.record_log.specs.Growth.{MayAppendGroup}
use Rattle.record_log.specs.Records.{spelled, HoldsRecords, RecordLog}
use Rattle.log_compact.specs.declared.folds.Folded.{Folded}
use Rattle.log_compact.specs.Compacting.{other_side, IsOnSide, group_for, IsBefore, IsBehind, MayCompact, FoldsTheSame}

-- an open device: its history, and where its closed gate stands
pub record OpenDevice : Type 0 where
  pub history : DeviceHistory
  pub end : ℕ

-- one that holds a log of records, and these
pub record Held : Type 0 where
  pub history : DeviceHistory
  pub end : ℕ
  pub records : List Record
  pub holds : RecordLog history end records

abbrev pub records_on : (ℕ → Held) → ℕ → List Record
records_on devices d = (devices d).records

-- the same devices, whatever they hold
abbrev pub open_on : (ℕ → Held) → ℕ → OpenDevice
open_on devices d = record { history = (devices d).history; end = (devices d).end }

abbrev pub IsFront : List DevOp → List DevOp → Type 0
IsFront made ops = (left : List DevOp) × (ops ≡ made ++ left)

-- the operations that clear a device
abbrev pub cleared_ops : OpenDevice → List DevOp
cleared_ops d = clear_ops d.end

-- the operations that clear a device and make its log one of format 2
abbrev pub ready_ops : OpenDevice → List DevOp
ready_ops d = cleared_ops d ++ upgrading_ops (content d.history)

-- those that append the group to it then
abbrev pub group_ops : List Record → List DevOp
group_ops group = append_ops FIRST_GATE (spelled group)

-- First the logs of the other side are cleared, and made ones of format 2. Which of them are already, and how far, is open.
pub record IsMadeReady (devices : ℕ → OpenDevice) (made : ℕ → List DevOp) (other logs : ℕ) : Type 0 where
  pub side : (d : ℕ) → IsOnSide other logs d → IsFront (made d) (ready_ops (devices d))
  pub rest : (d : ℕ) → ¬ IsOnSide other logs d → made d ≡ []

-- then the group is appended to the first of them
pub record IsAppending (devices : ℕ → OpenDevice) (made : ℕ → List DevOp) (other logs : ℕ) (group : List Record) : Type 0 where
  pub front : List DevOp
  pub some : IsFront front (group_ops group)
  pub first : made other ≡ ready_ops (devices other) ++ front
  pub side : (d : ℕ) → IsOnSide other logs d → d ≢ other → made d ≡ ready_ops (devices d)
  pub rest : (d : ℕ) → ¬ IsOnSide other logs d → made d ≡ []

-- and then the logs of the old side are cleared
pub record IsClearingOld (devices : ℕ → OpenDevice) (made : ℕ → List DevOp) (head other logs : ℕ) (group : List Record) : Type 0 where
  pub first : made other ≡ ready_ops (devices other) ++ group_ops group
  pub side : (d : ℕ) → IsOnSide other logs d → d ≢ other → made d ≡ ready_ops (devices d)
  pub old : (d : ℕ) → ¬ IsOnSide other logs d → IsOnSide head logs d → IsFront (made d) (cleared_ops (devices d))
  pub rest : (d : ℕ) → ¬ IsOnSide other logs d → ¬ IsOnSide head logs d → made d ≡ []

-- these operations are made at some moment of compacting
abbrev pub AreMade : (devices : ℕ → OpenDevice) (made : ℕ → List DevOp) (head other logs : ℕ) (group : List Record) → Type 0
AreMade devices made head other logs group =
    IsMadeReady devices made other logs ⊎ (IsAppending devices made other logs group ⊎ IsClearingOld devices made head other logs group)

-- a crash leaves these bytes of each device
abbrev pub AreImages : (devices : ℕ → Held) (made : ℕ → List DevOp) (images : ℕ → List ℕ) → Type 0
AreImages devices made images = (d : ℕ) → IsImage (disk_after (made d) (disk (devices d).history)) (images d)

-- Each device is left a log of records, and together they hold what the devices may hold at a moment.
pub record HoldMoment (devices : ℕ → Held) (head other logs : ℕ) (group : List Record) (images : ℕ → List ℕ) : Type 0 where
  pub now : ℕ → List Record
  pub are_logs : (d : ℕ) → HoldsRecords (images d) (now d)
  pub moment : IsBefore (records_on devices) now other logs ⊎ IsBehind (records_on devices) now head other logs group

-- At every moment of the order of operations, whatever a crash leaves of each device.
abbrev pub ImagesHoldMoments : Type 0
ImagesHoldMoments =
    (devices : ℕ → Held) (made : ℕ → List DevOp) (head other logs : ℕ) (group : List Record) (images : ℕ → List ℕ)
    → ((d : ℕ) → IsOnSide head logs d → ¬ IsOnSide other logs d) → IsOnSide other logs other → MayAppendGroup FIRST_GATE group
    → AreMade (open_on devices) made head other logs group → AreImages devices made images
    → HoldMoment devices head other logs group images

-- what a crash leaves of devices that held these records folds to what was folded before
pub record ImagesFold (devices : ℕ → List Record) (head logs : ℕ) (f : Folded) (images : ℕ → List ℕ) : Type 0 where
  pub now : ℕ → List Record
  pub are_logs : (d : ℕ) → HoldsRecords (images d) (now d)
  pub folds : FoldsTheSame devices now head logs f

abbrev pub CrashedCompactionFolds : Type 0
CrashedCompactionFolds =
    (devices : ℕ → Held) (made : ℕ → List DevOp) (head logs : ℕ) (f : Folded) (images : ℕ → List ℕ)
    → MayCompact (records_on devices) head logs f → MayAppendGroup FIRST_GATE (group_for logs f)
    → AreMade (open_on devices) made head (other_side head logs) logs (group_for logs f) → AreImages devices made images
    → ImagesFold (records_on devices) head logs f images
