-- What reading the logs of four devices finds, without a change of them.
use Rattle.std.specs.Prelude.{◌≡◌, ℕ, ◌<◌, ◌≤◌, List, length, IfSome}
use Rattle.snap_outside.specs.Causes.{Rose}
use Rattle.snap_outside.specs.Disk.{content}
use Rattle.gate_log.specs.declared.logs.LogItem.{LogItem}
use Rattle.gate_log.specs.declared.opens.OpenNo.{OpenNo}
use Rattle.gate_log.specs.declared.opens.OpenNo.TheVariants as refusal
use Rattle.gate_log.specs.Opened.{Refused}
use Rattle.log_reading.specs.Read.{IsReadFrom}
use Rattle.log_opening.specs.Devices.{Device, device_at}
use Rattle.log_opening.specs.Found.{no_of_opening}
use Rattle.log_opening.specs.Upgrades.{items_at}
use Rattle.log_opening.specs.declared.refusals.LogsNo.{LogsNo}
use Rattle.log_opening.specs.declared.refusals.LogsNo.TheVariants as ending

-- The device holds what it held, and no fault is forgotten.
pub record IsLeftAsItWas (before after : Device) : Type 0 where
  pub told : after.told ≡ before.told
  pub later : before.faults ≤ after.faults

-- So do all of them.
pub record AreUntouched (before after : List Device) : Type 0 where
  pub many : length after ≡ length before
  pub each : (d : ℕ) → IsLeftAsItWas (device_at before d) (device_at after d)

-- the items are those of the log on the device, where it tells what it holds
abbrev pub IsReadOn : Device → List LogItem → Type 0
IsReadOn d items = IfSome d.told (λ h. IsReadFrom (content h) items)

-- these are the items of the logs on the four devices, a list for each
pub record AreAllRead (devices : List Device) (found : List (List LogItem)) : Type 0 where
  pub many : length found ≡ 4
  pub each : (d : ℕ) → d < 4 → IsReadOn (device_at devices d) (items_at found d)

-- ---- refusals

-- This device's log is not read, for this cause.
pub record IsUnread (before after : Device) (why : OpenNo) : Type 0 where
  pub refused : Refused before.told after.told why
  pub failed : why ≡ refusal.Device → Rose before.faults after.faults

-- the same, as the answer tells it, which names the log
abbrev pub IsToldOfLog : ℕ → Device → Device → LogsNo → Type 0
IsToldOfLog log before after answer = (why : OpenNo) × IsUnread before after why × (answer ≡ no_of_opening log why)

-- The log of this device is not read, for this cause. Those below it are logs.
pub record IsNotRead (before after : List Device) (log : ℕ) (why : OpenNo) : Type 0 where
  pub there : log < 4
  pub unread : IsUnread (device_at before log) (device_at after log) why
  pub below : (d : ℕ) → d < log → (items : List LogItem) × IsReadOn (device_at before d) items

-- why the logs of the four devices are not read: there was no memory, or one of them is refused
pub data IsNoItems (before after : List Device) : LogsNo → Type 0 where
  no_memory : IsNoItems before after ending.Memory
  no_log : (log : ℕ) (why : OpenNo) → IsNotRead before after log why → IsNoItems before after (no_of_opening log why)
