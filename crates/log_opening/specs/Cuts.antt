-- What the four devices of a call hold, and what a crash in it leaves of them.
use Rattle.std.specs.Prelude.{◌≡◌, ℕ, ◌+◌, ◌<◌, Some, List, ◌++◌}
use Rattle.gate_log.specs.Bytes.{IsOld}
use Rattle.record_log.specs.Records.{HoldsRecords}
use Rattle.snap_outside.specs.declared.devices.DevOp.{DevOp}
use Rattle.snap_outside.specs.Disk.{DeviceHistory, content, disk, disk_after, settled, with_ops, IsImage}
use Rattle.txn_records.specs.declared.records.Record.{Record}
use Rattle.log_opening.specs.Devices.{Device, device_at}

-- these bytes hold these records, device by device
abbrev pub HoldFour : (ℕ → List ℕ) → (ℕ → List Record) → Type 0
HoldFour images now = (d : ℕ) → d < 4 → HoldsRecords (images d) (now d)

-- of so many of these bytes from the head on none is a log of format 1 with an item
abbrev pub AreRecent : (ℕ → List ℕ) → ℕ → ℕ → Type 0
AreRecent images head count = (l : ℕ) → l < count → ¬ IsOld (images (head + l))

-- the four devices tell these bytes
abbrev pub TellBytes : List Device → (ℕ → List ℕ) → Type 0
TellBytes devices bytes = (d : ℕ) → d < 4 → (h : DeviceHistory) × ((device_at devices d).told ≡ Some h) × (content h ≡ bytes d)

-- of the operations that the device got these are made, from the first on
abbrev pub IsFrontOfCall : Device → DeviceHistory → List DevOp → Type 0
IsFrontOfCall after h made = (more : List DevOp) × (after.told ≡ Some (with_ops h (made ++ more)))

-- A crash in a call: the device told that it held a log of these records, and it was durable; of its operations these are made; and
-- these bytes are left.
pub record IsCutCall (before : Device) (held : List Record) (made : List DevOp) (image : List ℕ) : Type 0 where
  pub history : DeviceHistory
  pub told : before.told ≡ Some history
  pub durable : disk history ≡ settled (content history)
  pub holds : HoldsRecords (content history) held
  pub left : IsImage (disk_after made (disk history)) image
