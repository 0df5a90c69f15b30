-- Devices as contracts see them.
use Rattle.std.specs.Prelude.{◌≡◌, ℕ, ◌+◌, ◌<◌, ◌≤◌, ◌⊎◌, List, [], ◌∷◌, ◌++◌, map, take, drop, Option, None, IfSome, slice_index_or}
use Rattle.std.specs.List.{AllZip}
use Rattle.snap_outside.specs.declared.devices.DevOp.{DevOp}
use Rattle.snap_outside.specs.Disk.{DeviceHistory, content, AddsAll, AddsUpToFault}
use Rattle.gate_log.specs.Appends.{clear_ops, upgrade_ops}
pub use Rattle.gate_log.specs.Bytes.{IsOld}
use Rattle.gate_log.specs.Bytes.{format_in}
use Rattle.gate_log.specs.Opened.{Opened, MayBeMade, Refused}
use Rattle.gate_log.specs.declared.opens.OpenNo.TheVariants as refusal
use Rattle.gate_log.specs.declared.logs.LogItem.{LogItem}
use Rattle.gate_log.specs.State.{LogState}
use Rattle.log_compact.specs.Compacting.{IsOnSide, other_side}
use Rattle.record_log.specs.Growth.{upgrading_of}

-- a device: its history, where it tells it, and its faults
pub record Device : Type 0 where
  pub told : Option DeviceHistory
  pub faults : ℕ

-- objects as devices, by what they tell and count
abbrev pub devices_of : {D : Type 0} → (D → Option DeviceHistory) → (D → ℕ) → List D → List Device
devices_of told faults ds = map (λ d. record { told = told d; faults = faults d }) ds

-- an open log as a device
abbrev pub as_device : LogState → Device
as_device log = record { told = log.told; faults = log.faults }

-- all devices, where those of these logs are open and the others are not
abbrev pub devices_now : {D : Type 0} → (D → Option DeviceHistory) → (D → ℕ) → List LogState → List D → List Device
devices_now told faults logs others = map as_device logs ++ devices_of told faults others

-- all devices, where those of these logs are open and stand behind so many of the others
abbrev pub devices_with : {D : Type 0} → (D → Option DeviceHistory) → (D → ℕ) → ℕ → List LogState → List D → List Device
devices_with told faults head logs others = take head (devices_of told faults others) ++ (map as_device logs ++ drop head (devices_of told faults others))

-- the device with this number, from 0 on; past the last one a device that tells nothing
abbrev pub device_at : List Device → ℕ → Device
device_at devices log = slice_index_or devices log (record { told = None; faults = 0 })

-- only opening's operations were made
abbrev pub OnlyOpened : Option DeviceHistory → Option DeviceHistory → Type 0
OnlyOpened old new = (end : ℕ) × (found : List LogItem) × Opened old new end found

-- A device got no call, or those of opening, as far as it did not fail.
abbrev pub IsOpenedAtMost : Device → Device → Type 0
IsOpenedAtMost before after = (after.told ≡ before.told) ⊎ (OnlyOpened before.told after.told ⊎ MayBeMade before.told after.told)

-- a device got the operations of opening, and no others
abbrev pub IsOpened : Device → Device → Type 0
IsOpened before after = OnlyOpened before.told after.told

-- So many devices are opened, from the first one on, and the others got no call.
pub record AreOpened (count : ℕ) (before after : List Device) : Type 0 where
  pub opened : AllZip IsOpened (take count before) (take count after)
  pub others : drop count after ≡ drop count before

-- The devices below this one are opened, and those above it got no call.
pub record IsReached (log : ℕ) (before after : List Device) : Type 0 where
  pub below : AllZip IsOpened (take log before) (take log after)
  pub above : drop (log + 1) after ≡ drop (log + 1) before

-- There was no memory, and no log was opened but those that are asked. So many devices are opened, from the first one on, and
-- the others got no call; or one that is asked holds what it held, those below it are opened, and those above it got no call.
abbrev pub LacksMemory : (ℕ → Type 0) → List Device → List Device → Type 0
LacksMemory Asked before after =
    ((n : ℕ) × ((log : ℕ) → log < n → Asked log) × AreOpened n before after)
    ⊎ ((log : ℕ) × Asked log × Refused (device_at before log).told (device_at after log).told refusal.Memory × IsReached log before after)

-- ---- logs that are to be appended to

-- the device holds a log of format 1 with an item, if it tells what it holds
abbrev pub HoldsOld : Device → Type 0
HoldsOld d = IfSome d.told (λ h. IsOld (content h))

-- the device holds no log of format 1 with an item, if it tells what it holds
abbrev pub HoldsNoOld : Device → Type 0
HoldsNoOld d = IfSome d.told (λ h. ¬ IsOld (content h))

-- of so many devices from the head on none holds a log of format 1 with an item
abbrev pub HoldNoOld : ℕ → ℕ → List Device → Type 0
HoldNoOld head count before = (l : ℕ) → l < count → HoldsNoOld (device_at before (head + l))

-- A device was opened, and its log made one of format 2, where it was of format 1.
abbrev pub DeviceBegun : Option DeviceHistory → Option DeviceHistory → ℕ → List LogItem → Type 0
DeviceBegun old new end found = (opened : Option DeviceHistory) × Opened old opened end found × AddsAll opened new (upgrading_of old)

-- A device was opened, and its log made one of format 2, where it was of format 1; at some end, with some items.
abbrev pub IsBegun : Device → Device → Type 0
IsBegun before after = (end : ℕ) × (found : List LogItem) × DeviceBegun before.told after.told end found

-- The logs in use, so many from the head on, are opened and of format 2 now. The others are only opened.
pub record AreBegun (head count : ℕ) (before after : List Device) : Type 0 where
  pub begun : (l : ℕ) → l < count → IsBegun (device_at before (head + l)) (device_at after (head + l))
  pub aside : (d : ℕ) → d < 4 → ¬ IsOnSide head count d → IsOpened (device_at before d) (device_at after d)

-- what makes a log of format 1 one of format 2, where it has no item; and nothing where it has some
abbrev pub preparing_of : Option DeviceHistory → List LogItem → List DevOp
preparing_of old [] = upgrading_of old
preparing_of old (item ∷ found) = []

-- A device was opened, and its log made one of format 2, where it was of format 1 and had no item.
abbrev pub DevicePrepared : Option DeviceHistory → Option DeviceHistory → ℕ → List LogItem → Type 0
DevicePrepared old new end found = (opened : Option DeviceHistory) × Opened old opened end found × AddsAll opened new (preparing_of old found)

abbrev pub IsDevicePrepared : Device → Device → Type 0
IsDevicePrepared before after = (end : ℕ) × (found : List LogItem) × DevicePrepared before.told after.told end found

-- A device was opened, its log was of format 1 and had no item, and the upgrade met a fault.
abbrev pub IsUpgradeCutOff : Device → Device → Type 0
IsUpgradeCutOff before after =
    (end : ℕ) × (opened : Option DeviceHistory) × Opened before.told opened end [] × IfSome before.told (λ h. format_in (content h) ≡ 1)
    × AddsUpToFault opened after.told upgrade_ops

-- A device got no call, or those of opening and then of an upgrade, as far as it did not fail.
abbrev pub IsPreparedAtMost : Device → Device → Type 0
IsPreparedAtMost before after = IsOpenedAtMost before after ⊎ (IsDevicePrepared before after ⊎ IsUpgradeCutOff before after)

-- ---- the other side

-- Where there is a checkpoint, and the logs in use are two at most, the logs of the other side are to be cleared.
pub record IsToBeCleared (head count generation d : ℕ) : Type 0 where
  pub checkpoint : 1 ≤ generation
  pub few : count ≤ 2
  pub side : IsOnSide (other_side head count) count d

-- a device was opened, and its log cleared
abbrev pub IsEmptied : Device → Device → Type 0
IsEmptied before after = (end : ℕ) × (found : List LogItem) × (opened : Option DeviceHistory) × Opened before.told opened end found × AddsAll opened after.told (clear_ops end)

-- a device was opened, and the clearing of its log met a fault
abbrev pub IsEmptyingCutOff : Device → Device → Type 0
IsEmptyingCutOff before after = (end : ℕ) × (found : List LogItem) × (opened : Option DeviceHistory) × Opened before.told opened end found × AddsUpToFault opened after.told (clear_ops end)

-- The devices that are not in use are opened, and those that are to be cleared are cleared then.
pub record AreAside (head count generation : ℕ) (before after : List Device) : Type 0 where
  pub cleared : (d : ℕ) → d < 4 → IsToBeCleared head count generation d → IsEmptied (device_at before d) (device_at after d)
  pub kept : (d : ℕ) → d < 4 → ¬ IsOnSide head count d → ¬ IsToBeCleared head count generation d → IsOpened (device_at before d) (device_at after d)
