-- What opening finds on a device, and what it does to it.
use Rattle.std.specs.Prelude.{◌≡◌, ℕ, ◌<◌, ◌≤◌, nat_le, if◌then◌else◌, ◌⊎◌, List, [], ◌∷◌, ◌++◌, length, map, Option, None, Some, IfSome, ⊤}
use Rattle.snap_outside.specs.declared.devices.DevOp.{DevOp}
use Rattle.snap_outside.specs.declared.devices.DevOp.TheVariants.{Write, Sync}
use Rattle.snap_outside.specs.Disk.{DeviceHistory, disk, content, with_op, EachMoment, AddsAll}
use Rattle.snap_outside.specs.Causes.{Rose}
use Rattle.gate_log.specs.declared.limits.TheConstants.{NEW_LOG_SIZE}
use Rattle.gate_log.specs.declared.logs.LogItem.{LogItem}
use Rattle.gate_log.specs.declared.opens.OpenNo.{OpenNo}
use Rattle.gate_log.specs.declared.opens.OpenNo.TheVariants.{NotALog, Damage, Device, Memory}
use Rattle.gate_log.specs.Appends.{upgrading_ops}
use Rattle.gate_log.specs.Bytes.{MARK_2, header, IsLog, DiffersAt, IsDamagedAt, IsPlacedLogAt}

-- the bytes of items, without where they stand
abbrev pub bytes_of : List LogItem → List (List ℕ)
bytes_of items = map (λ (i : LogItem). i.bytes) items

-- a log of format 2 with no group: the header and a closed gate
abbrev pub new_log : List ℕ
new_log = header MARK_2 ++ 0 ∷ []

-- what opening does to a device with these bytes: a new log is made, or one is read; then the device is durable
abbrev pub opening_ops : List ℕ → List DevOp
opening_ops bytes = if nat_le (length bytes) NEW_LOG_SIZE then Write 0 new_log ∷ Sync ∷ [] else Sync ∷ []

-- what is done to a device with these bytes until its log may be appended to: it is opened, and its log made one of format 2
abbrev pub beginning_ops : List ℕ → List DevOp
beginning_ops bytes = opening_ops bytes ++ upgrading_ops bytes

-- A device that is no longer than a new log is made one, and made durable. A longer one is read, and made durable.
pub record OpenedOn (h : DeviceHistory) (new : Option DeviceHistory) (end : ℕ) (found : List LogItem) : Type 0 where
  pub made : length (content h) ≤ NEW_LOG_SIZE → (end ≡ 8) × (found ≡ []) × AddsAll (Some h) new (Write 0 new_log ∷ Sync ∷ [])
  pub read : NEW_LOG_SIZE < length (content h) → IsPlacedLogAt (content h) end found × AddsAll (Some h) new (Sync ∷ [])

-- from what the device told before, what it tells now, the end and the found items
abbrev pub Opened : Option DeviceHistory → Option DeviceHistory → ℕ → List LogItem → Type 0
Opened None new end found = new ≡ None
Opened (Some h) new end found = OpenedOn h new end found

-- the log's format is 1 or 2, and it is 2 where the device, as it told itself before, is made a new log
abbrev pub HasOpenedFormat : Option DeviceHistory → ℕ → Type 0
HasOpenedFormat old format = ((format ≡ 1) ⊎ (format ≡ 2)) × IfSome old (λ h. length (content h) ≤ NEW_LOG_SIZE → format ≡ 2)

-- a device that failed may have been made a new log, where it was no longer than one
abbrev pub MayBeMade : Option DeviceHistory → Option DeviceHistory → Type 0
MayBeMade None new = new ≡ None
MayBeMade (Some h) new = (new ≡ Some h) ⊎ ((length (content h) ≤ NEW_LOG_SIZE) × (new ≡ Some (with_op h (Write 0 new_log))))

-- Why a log was not opened, and what it did to the device.
abbrev pub Refused : Option DeviceHistory → Option DeviceHistory → OpenNo → Type 0
Refused old new (NotALog offset) = (new ≡ old) × IfSome old (λ h. (NEW_LOG_SIZE < length (content h)) × DiffersAt (content h) offset)
Refused old new (Damage offset) = (new ≡ old) × IfSome old (λ h. (NEW_LOG_SIZE < length (content h)) × IsDamagedAt (content h) offset)
Refused old new Device = MayBeMade old new
Refused old new Memory = new ≡ old

-- Whatever a crash leaves at any moment of the call of a device that is no longer than a new log holds no item.
abbrev pub MadeSafely : Option DeviceHistory → Option DeviceHistory → Type 0
MadeSafely old new =
    IfSome old (λ h. length (content h) ≤ NEW_LOG_SIZE
    → (ops : List DevOp) × AddsAll old new ops × EachMoment (disk h) ops (λ image. IsLog image []))

-- Why a device that is longer than a new log was not opened, and what it did to the device.
abbrev pub RefusedLong : Option DeviceHistory → Option DeviceHistory → OpenNo → Type 0
RefusedLong old new (NotALog offset) = (new ≡ old) × IfSome old (λ h. DiffersAt (content h) offset)
RefusedLong old new (Damage offset) = (new ≡ old) × IfSome old (λ h. IsDamagedAt (content h) offset)
RefusedLong old new Device = new ≡ old
RefusedLong old new Memory = new ≡ old

-- the cause of a call that reads no log
abbrev pub IsNoRead : ℕ → ℕ → OpenNo → Type 0
IsNoRead before now (NotALog offset) = ⊥
IsNoRead before now (Damage offset) = ⊥
IsNoRead before now Device = Rose before now
IsNoRead before now Memory = ⊤
