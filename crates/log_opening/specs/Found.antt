-- What opening devices one after the other finds, and what decoding finds then.
use Rattle.std.specs.Prelude.{◌≡◌, false, IfSome, ℕ, ◌+◌, ◌<◌, ◌≤◌, ◌⊎◌, List, [], ◌∷◌, length, map, take, slice_index_or, slice_set, ⊤}
use Rattle.std.specs.List.{AllZip}
use Rattle.snap_outside.specs.Causes.{Rose}
use Rattle.gate_log.specs.declared.limits.TheConstants.{FARTHEST_END}
use Rattle.gate_log.specs.declared.logs.LogItem.{LogItem}
use Rattle.gate_log.specs.declared.opens.OpenNo.{OpenNo}
use Rattle.gate_log.specs.declared.opens.OpenNo.TheVariants as refusal
use Rattle.gate_log.specs.Bytes.{IsPlacedLogAt}
use Rattle.gate_log.specs.Device.{DeviceLog, HasFormat}
use Rattle.gate_log.specs.State.{LogState}
use Rattle.gate_log.specs.Opened.{Opened, Refused, bytes_of}
use Rattle.txn_records.specs.declared.records.Record.{Record}
use Rattle.record_log.specs.Records.{AreItemsOf, IsFirstBadIn, KeepsRecords}
use Rattle.snap_recover.specs.declared.causes.LogCause.{LogCause}
use Rattle.snap_recover.specs.declared.causes.LogCause.TheVariants as cause
use Rattle.snap_recover.specs.declared.refusals.RecoverNo.TheVariants as recover
use Rattle.log_compact.specs.declared.refusals.FoldNo.{FoldNo}
use Rattle.log_compact.specs.declared.refusals.FoldNo.TheVariants as fold
use Rattle.log_compact.specs.Refusals.{IsNotFolded}
use Rattle.log_opening.specs.declared.refusals.LogsNo.{LogsNo}
use Rattle.log_opening.specs.declared.refusals.LogsNo.TheVariants as ending
use Rattle.log_opening.specs.Devices as devices

-- ---- one device

-- the items stand so in the bytes of some log
abbrev pub ArePlaced : List LogItem → Type 0
ArePlaced items = (bytes : List ℕ) × (end : ℕ) × IsPlacedLogAt bytes end items × (end ≤ FARTHEST_END)

-- no record is lost, and no fault is forgotten
pub record IsKeptSafe (before after : devices.Device) : Type 0 where
  pub records : KeepsRecords before.told after.told
  pub later : before.faults ≤ after.faults

-- the device is opened, and these items were found on it
pub record IsFoundOn (before after : devices.Device) (items : List LogItem) : Type 0 where
  pub opened : (end : ℕ) × Opened before.told after.told end items
  pub placed : ArePlaced items
  pub safe : IsKeptSafe before after

-- the open log holds these items, has the format of what its device holds, is not shut, and may grow
pub record IsReadyLog (log : LogState) (items : List LogItem) : Type 0 where
  pub holds : IfSome log.told (λ h. DeviceLog h log.end (bytes_of items))
  pub formatted : HasFormat log.told log.format
  pub known : (log.format ≡ 1) ⊎ (log.format ≡ 2)
  pub low : log.end ≤ FARTHEST_END
  pub ready : log.shut ≡ false

-- why the device was not opened
pub record IsLeftClosed (before after : devices.Device) (no : OpenNo) : Type 0 where
  pub refused : Refused before.told after.told no
  pub failed : no ≡ refusal.Device → Rose before.faults after.faults
  pub safe : IsKeptSafe before after

-- the device got no call but those of opening, and holds all that it held
pub record IsTouched (before after : devices.Device) : Type 0 where
  pub opened : devices.IsOpenedAtMost before after
  pub safe : IsKeptSafe before after

-- the device is opened, these items were found on it, and its log is one of format 2 now
pub record IsBegunOn (before after : devices.Device) (items : List LogItem) : Type 0 where
  pub begun : (end : ℕ) × devices.DeviceBegun before.told after.told end items
  pub placed : ArePlaced items
  pub safe : IsKeptSafe before after

-- the device got no call but those of opening and of an upgrade, and holds all that it held
pub record IsHandled (before after : devices.Device) : Type 0 where
  pub prepared : devices.IsPreparedAtMost before after
  pub safe : IsKeptSafe before after

-- ---- all devices

-- These items were found on the first devices, a list on each. The others got no call.
abbrev pub AreFound : List devices.Device → List devices.Device → List (List LogItem) → Type 0
AreFound before after [] = after ≡ before
AreFound [] after (items ∷ found) = ⊥
AreFound (b ∷ before) [] (items ∷ found) = ⊥
AreFound (b ∷ before) (a ∷ after) (items ∷ found) = IsFoundOn b a items × AreFound before after found

-- All four devices are open, these items were found on them, a list on each, and the logs are ready.
pub record AreAllFound (before : List devices.Device) (logs : List LogState) (found : List (List LogItem)) : Type 0 where
  pub many : length logs ≡ 4
  pub are : AreFound before (map devices.as_device logs) found
  pub ready : AllZip IsReadyLog logs found

-- The devices below this one were opened, and this one was not, for this cause.
pub record IsStoppedAt (log : ℕ) (before after : List devices.Device) (no : OpenNo) : Type 0 where
  pub parts : (mid : List devices.Device) × (found : List (List LogItem)) × (new : devices.Device)
      × AreFound before mid found × (log ≡ length found) × (log < length mid) × (after ≡ slice_set mid log new)
      × IsLeftClosed (devices.device_at mid log) new no

-- why this log was not opened, as `LogsNo` tells it
abbrev pub no_of_opening : ℕ → OpenNo → LogsNo
no_of_opening log (refusal.NotALog offset) = ending.Refused log offset cause.NotALog
no_of_opening log (refusal.Damage offset) = ending.Refused log offset cause.Damage
no_of_opening log refusal.Device = ending.Device log
no_of_opening log refusal.Memory = ending.Memory

-- only the first devices are opened, so many at most
abbrev pub AreOpenedInPart : ℕ → List devices.Device → List devices.Device → Type 0
AreOpenedInPart count before after = (n : ℕ) × (n ≤ count) × devices.AreOpened n before after

-- one of the first devices, so many, was not opened, for a cause that is told so
abbrev pub IsStoppedBelow : ℕ → List devices.Device → List devices.Device → LogsNo → Type 0
IsStoppedBelow count before after answer =
    (log : ℕ) × (why : OpenNo) × (log < count) × IsStoppedAt log before after why × (answer ≡ no_of_opening log why)

-- Not so many devices were opened, and why: there was no memory behind the opening of one of them, or one was not opened.
pub record IsHalted (count : ℕ) (before after : List devices.Device) (no : LogsNo) : Type 0 where
  pub touched : AllZip IsTouched before after
  pub why : ((no ≡ ending.Memory) × AreOpenedInPart count before after) ⊎ IsStoppedBelow count before after no

-- ---- records

-- why the items of this log are no records
abbrev pub IsNoReading : List LogItem → ℕ → LogsNo → Type 0
IsNoReading items log (ending.Refused l offset cause.BadRecord) = (l ≡ log) × IsFirstBadIn items offset
IsNoReading items log (ending.Refused l offset c) = ⊥
IsNoReading items log (ending.Device l) = ⊥
IsNoReading items log ending.Memory = ⊤

-- why the items of the logs in use, the first of which lies on this device, are no records
abbrev pub IsNoDecoding : ℕ → List (List LogItem) → LogsNo → Type 0
IsNoDecoding head found (ending.Refused log offset cause.BadRecord) =
    (below : List (List Record)) × (log ≡ head + length below) × (length below < length found)
    × AllZip AreItemsOf (take (length below) found) below × IsFirstBadIn (slice_index_or found (length below) []) offset
IsNoDecoding head found (ending.Refused log offset c) = ⊥
IsNoDecoding head found (ending.Device log) = ⊥
IsNoDecoding head found ending.Memory = ⊤

-- why the records of all logs fold to nothing, and the log that is named
abbrev pub IsFoldCause : List (List Record) → ℕ → LogCause → Type 0
IsFoldCause logs log cause.NotALog = ⊥
IsFoldCause logs log cause.Damage = ⊥
IsFoldCause logs log cause.OldFormat = ⊥
IsFoldCause logs log cause.BadRecord = ⊥
IsFoldCause logs log cause.Stray = IsNotFolded logs (fold.Stray log)
IsFoldCause logs log cause.Back = ⊥
IsFoldCause logs log cause.NoGenesis = (log ≡ 0) × IsNotFolded logs (fold.Recover recover.NoGenesis)
IsFoldCause logs log cause.TwoGenesis = (log ≡ 0) × IsNotFolded logs (fold.Recover recover.TwoGenesis)
IsFoldCause logs log (cause.LogCount kept found) = (log ≡ 0) × IsNotFolded logs (fold.Recover (recover.LogCount kept found))
IsFoldCause logs log (cause.Range k) = IsNotFolded logs (fold.Range k log) ⊎ IsNotFolded logs (fold.Recover (recover.Range k log))
IsFoldCause logs log (cause.Missing k) = IsNotFolded logs (fold.Recover (recover.Missing k log))
IsFoldCause logs log (cause.Values k u v) = IsNotFolded logs (fold.Recover (recover.Values k log u v))
IsFoldCause logs log (cause.Spent number) = ⊥
IsFoldCause logs log (cause.Differs what kept text) = ⊥

-- the log in use that the answer names, and the first one where it names none
abbrev pub log_named : FoldNo → ℕ
log_named (fold.Stray log) = log
log_named (fold.Range k log) = log
log_named (fold.Recover recover.NoGenesis) = 0
log_named (fold.Recover recover.TwoGenesis) = 0
log_named (fold.Recover (recover.LogCount kept found)) = 0
log_named (fold.Recover (recover.Range k log)) = log
log_named (fold.Recover (recover.Missing k log)) = log
log_named (fold.Recover (recover.Values k log u v)) = log
log_named (fold.Recover recover.Memory) = 0
log_named fold.Memory = 0

-- Why the records of the logs in use, the first of which lies on this device, fold to nothing, as `LogsNo` tells it. The log is named
-- by its device.
abbrev pub IsNoFold : ℕ → List (List Record) → LogsNo → Type 0
IsNoFold head lists (ending.Refused log offset c) = (offset ≡ 0) × ((number : ℕ) × (log ≡ head + number) × IsFoldCause lists number c)
IsNoFold head lists (ending.Device log) = ⊥
IsNoFold head lists ending.Memory = ⊤
