-- Which of the four logs of a call are in use, what these hold together, and why they are refused.
use Rattle.std.specs.Prelude.{◌≡◌, ℕ, ◌+◌, ◌<◌, List, length, slice_index_or, [], Option, IfSome}
use Rattle.std.specs.List.{AllByRecursion}
use Rattle.snap_outside.specs.Causes.{Rose}
use Rattle.snap_outside.specs.Disk.{DeviceHistory, content}
use Rattle.gate_log.specs.declared.logs.LogItem.{LogItem}
use Rattle.gate_log.specs.declared.opens.OpenNo.{OpenNo}
use Rattle.gate_log.specs.declared.opens.OpenNo.TheVariants as refusal
use Rattle.gate_log.specs.Opened.{Opened, Refused}
use Rattle.txn_records.specs.declared.records.Record.{Record}
use Rattle.txn_records.specs.Records.{IsRecord}
use Rattle.record_log.specs.Records.{HoldsRecords, IsFirstBadIn}
use Rattle.snap_recover.specs.declared.causes.LogCause.{LogCause}
use Rattle.snap_recover.specs.declared.causes.LogCause.TheVariants as cause
use Rattle.log_compact.specs.declared.folds.Folded.{Folded}
use Rattle.log_compact.specs.Finding.{IsUsed}
use Rattle.log_compact.specs.Fronts.{HoldsFront}
use Rattle.log_compact.specs.Sets.{IsFolded}
use Rattle.log_opening.specs.Found.{IsFoldCause}
use Rattle.log_opening.specs.declared.refusals.LogsNo.{LogsNo}
use Rattle.log_opening.specs.declared.refusals.LogsNo.TheVariants as ending
use Rattle.log_opening.specs.Devices as devices

-- what a device holds, where it tells it
abbrev pub DeviceHolds : devices.Device → List Record → Type 0
DeviceHolds d rs = IfSome d.told (λ h. HoldsRecords (content h) rs)

-- the records of the log with this number, and none past the last one
abbrev pub records_at : List (List Record) → ℕ → List Record
records_at lists l = slice_index_or lists l []

-- the devices from the head on hold these records, each of them a list
abbrev pub HoldLists : List devices.Device → ℕ → List (List Record) → Type 0
HoldLists before head lists = (l : ℕ) → l < length lists → DeviceHolds (devices.device_at before (head + l)) (records_at lists l)

-- So many logs from the head on are in use, by the records in front of what the four devices hold: those of the set; or, where there is
-- none, this many from device 0 on.
pub record AreUsed (many : ℕ) (before : List devices.Device) (head count generation : ℕ) : Type 0 where
  pub fronts : ℕ → List Record
  pub each : (d : ℕ) → d < 4 → IfSome (devices.device_at before d).told (λ h. HoldsFront (content h) (fronts d))
  pub used : IsUsed fronts many head count generation

-- These are the records of the logs in use, log 0 of which lies on the head. Where there is no set it is one.
pub record AreGiven (before : List devices.Device) (head : ℕ) (lists : List (List Record)) : Type 0 where
  pub generation : ℕ
  pub used : AreUsed 1 before head (length lists) generation
  pub each : AllByRecursion (AllByRecursion IsRecord) lists
  pub held : HoldLists before head lists

-- The logs in use hold records that fold.
pub record AreFolded (before : List devices.Device) : Type 0 where
  pub head : ℕ
  pub lists : List (List Record)
  pub fold : Folded
  pub given : AreGiven before head lists
  pub folded : IsFolded lists fold

-- ---- refusals: a log is named by its device

-- This log was not opened, for this cause. Those below it were, and those above it got no call.
pub record IsNotOpened (before after : List devices.Device) (log : ℕ) (why : OpenNo) : Type 0 where
  pub there : log < 4
  pub refused : Refused (devices.device_at before log).told (devices.device_at after log).told why
  pub reached : devices.IsReached log before after

-- Its device failed.
pub record HasFailedDevice (before after : List devices.Device) (log : ℕ) : Type 0 where
  pub not_opened : IsNotOpened before after log refusal.Device
  pub rose : Rose (devices.device_at before log).faults (devices.device_at after log).faults

-- This log is in use, the next one behind logs that hold records, and the first byte at which no record goes on is here.
pub record HasBadRecord (many : ℕ) (before after : List devices.Device) (log offset : ℕ) : Type 0 where
  pub head : ℕ
  pub count : ℕ
  pub generation : ℕ
  pub used : AreUsed many before head count generation
  pub below : List (List Record)
  pub held : HoldLists before head below
  pub asked : length below < count
  pub is : log ≡ head + length below
  pub bad : (end : ℕ) × (opened : Option DeviceHistory) × (found : List LogItem) × Opened (devices.device_at before log).told opened end found × IsFirstBadIn found offset

-- The records of the logs in use fold to nothing, for this cause, which is of this log.
pub record FoldsToNothing (before : List devices.Device) (log : ℕ) (why : LogCause) : Type 0 where
  pub head : ℕ
  pub lists : List (List Record)
  pub given : AreGiven before head lists
  pub number : ℕ
  pub is : log ≡ head + number
  pub cause_is : IsFoldCause lists number why

-- What this log holds is refused, for this cause: it was not opened, or not decoded; or the records of all in use fold to nothing.
abbrev pub IsLogRefused : List devices.Device → List devices.Device → ℕ → ℕ → LogCause → Type 0
IsLogRefused before after log offset cause.NotALog = IsNotOpened before after log (refusal.NotALog offset)
IsLogRefused before after log offset cause.Damage = IsNotOpened before after log (refusal.Damage offset)
IsLogRefused before after log offset cause.BadRecord = HasBadRecord 1 before after log offset × devices.AreOpened 4 before after
IsLogRefused before after log offset c = (offset ≡ 0) × FoldsToNothing before log c × devices.AreOpened 4 before after

-- why nothing is recovered, from the devices before and after
abbrev pub IsLogsNo : List devices.Device → List devices.Device → LogsNo → Type 0
IsLogsNo before after (ending.Refused log offset c) = IsLogRefused before after log offset c
IsLogsNo before after (ending.Device log) = HasFailedDevice before after log
IsLogsNo before after ending.Memory = devices.LacksMemory (λ log. log < 4) before after
