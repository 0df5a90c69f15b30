-- What a crash in a compaction leaves of the four devices.
use Rattle.std.specs.Prelude.{◌≡◌, ℕ, ◌<◌, ◌⊎◌, Some, List, ◌++◌, length}
use Rattle.std.specs.List.{AllZip}
use Rattle.snap_outside.specs.declared.devices.DevOp.{DevOp}
use Rattle.snap_outside.specs.Disk.{DeviceHistory, content, with_ops}
use Rattle.gate_log.specs.Device.{DeviceLog}
use Rattle.gate_log.specs.Opened.{opening_ops}
use Rattle.txn_records.specs.declared.records.Record.{Record}
use Rattle.record_log.specs.Records.{KeepsRecords}
use Rattle.log_compact.specs.declared.folds.Folded.{Folded}
use Rattle.log_compact.specs.Compacting.{AreSameOrNext, group_for, other_side}
use Rattle.log_compact.specs.Finding.{IsUsed}
use Rattle.log_compact.specs.OnDevices.{AreMade, OpenDevice, IsFront}
use Rattle.log_compact.specs.Sets.{IsFolded, IsSameFold, logs_from}
use Rattle.log_opening.specs.Cuts.{AreRecent, HoldFour, IsCutCall, IsFrontOfCall}
use Rattle.log_opening.specs.Devices.{Device, HoldNoOld, device_at}
use Rattle.log_opening.specs.Kept.{AreFolded}

-- the device is opened, and is so a log, whose closed gate stands where it is said to
pub record IsOpenAs (before : DeviceHistory) (open_log : OpenDevice) : Type 0 where
  pub history : open_log.history ≡ with_ops before (opening_ops (content before))
  pub log : (items : List (List ℕ)) × DeviceLog open_log.history open_log.end items

-- At a moment of compacting what these fold to, from the head on: the devices are being opened, in order; or all are, and of the operations
-- of compacting these are made, in their order.
abbrev pub IsMomentOfCompaction : (histories : ℕ → DeviceHistory) (head count : ℕ) (f : Folded) (made : ℕ → List DevOp) → Type 0
IsMomentOfCompaction histories head count f made =
    ((d : ℕ) → d < 4 → IsFront (made d) (opening_ops (content (histories d))))
    ⊎ ((devices : ℕ → OpenDevice) × (more : ℕ → List DevOp)
    × ((d : ℕ) → d < 4 → IsOpenAs (histories d) (devices d) × (made d ≡ opening_ops (content (histories d)) ++ more d))
    × AreMade devices more head (other_side head count) count (group_for count f))

-- What the call did to the four devices, where they told what they held, is what is made at some moment of it: also where a device failed,
-- or there was no memory.
abbrev pub IsAtMoment : (before after : List Device) (head count : ℕ) (f : Folded) → Type 0
IsAtMoment before after head count f =
    (histories : ℕ → DeviceHistory) → ((d : ℕ) → d < 4 → (device_at before d).told ≡ Some (histories d))
    → (made : ℕ → List DevOp) × ((d : ℕ) → d < 4 → (device_at after d).told ≡ Some (with_ops (histories d) (made d))) × IsMomentOfCompaction histories head count f made

-- A crash in the call, at a moment of it: these bytes are left of the four devices, which held these records.
pub record CrashInCompaction (before after : List Device) (head count : ℕ) (f : Folded) (held : ℕ → List Record) (images : ℕ → List ℕ) : Type 0 where
  pub histories : ℕ → DeviceHistory
  pub made : ℕ → List DevOp
  pub each : (d : ℕ) → d < 4 → (cut : IsCutCall (device_at before d) (held d) (made d) (images d)) × (cut.history ≡ histories d) × IsFrontOfCall (device_at after d) (histories d) (made d)
  pub moment : IsMomentOfCompaction histories head count f made

-- What is left of four devices that held these records, of which this was the head, folds to the same: the logs in use are as many, and
-- these fold to the same states, next numbers and counts.
pub record FoldsAgain (held : ℕ → List Record) (was count : ℕ) (f : Folded) (images : ℕ → List ℕ) : Type 0 where
  pub now : ℕ → List Record
  pub holds : HoldFour images now
  pub head : ℕ
  pub fold : Folded
  pub used : IsUsed now 1 head count fold.generation
  pub folded : IsFolded (logs_from now head count) fold
  pub same : IsSameFold f fold
  -- they are the same logs, or those of the other side, one generation later
  pub which : AreSameOrNext held now was head count f fold

-- At every crash in the call, for every choice of images of the four devices, the logs in use fold to what they folded to before. Where they
-- do not fold, a crash at any moment leaves the records of all devices.
pub record CompactsSafely (before after : List Device) : Type 0 where
  pub folds : (logs : AreFolded before) (held : ℕ → List Record) (images : ℕ → List ℕ)
      → CrashInCompaction before after logs.head (length logs.lists) logs.fold held images → FoldsAgain held logs.head (length logs.lists) logs.fold images
  -- and where none of the logs in use was of format 1 with an item, none of those that are in use then is
  pub recent : (logs : AreFolded before) (held : ℕ → List Record) (images : ℕ → List ℕ)
      → (crash : CrashInCompaction before after logs.head (length logs.lists) logs.fold held images) → HoldNoOld logs.head (length logs.lists) before
      → AreRecent images (folds logs held images crash).head (length logs.lists)
  pub keeps : AreFolded before ⊎ AllZip (λ (b a : Device). KeepsRecords b.told a.told) before after
