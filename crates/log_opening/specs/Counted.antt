-- The logs of a run, whose text says how many there are: what is found when all four logs are opened, those in use made ready and
-- then decoded, and why they are not.
use Rattle.std.specs.Prelude.{◌≡◌, ◌≢◌, ℕ, ◌+◌, ◌<◌, ◌≤◌, ◌⊎◌, List, [], length, map}
use Rattle.std.specs.List.{AllByRecursion, AllZip}
use Rattle.snap_outside.specs.Causes.{Rose}
use Rattle.gate_log.specs.declared.opens.OpenNo.TheVariants as refusal
use Rattle.gate_log.specs.declared.logs.LogItem.{LogItem}
use Rattle.gate_log.specs.State.{LogState, log_at}
use Rattle.txn_records.specs.declared.records.Record.{Record}
use Rattle.txn_records.specs.Records.{IsRecord}
use Rattle.record_log.specs.Records.{AreItemsOf}
use Rattle.snap_recover.specs.declared.causes.LogCause.TheVariants as cause
use Rattle.log_compact.specs.Compacting.{IsOnSide}
use Rattle.log_opening.specs.declared.refusals.LogsNo.{LogsNo}
use Rattle.log_opening.specs.declared.refusals.LogsNo.TheVariants as ending
use Rattle.log_opening.specs.Devices as devices
use Rattle.log_opening.specs.Found.{IsHandled, IsBegunOn, IsFoundOn, IsReadyLog}
use Rattle.log_opening.specs.Kept.{AreUsed, HasBadRecord, HasFailedDevice, HoldLists, IsNotOpened, records_at}

-- There is a set, of another number of logs than the text's. All four logs are opened.
pub record HasOtherCount (count : ℕ) (before after : List devices.Device) (log kept found : ℕ) : Type 0 where
  pub generation : ℕ
  pub used : AreUsed count before log kept generation
  pub other : kept ≢ count
  pub texts : found ≡ count
  pub opened : devices.AreOpened 4 before after

-- This log is in use, of format 1, and has an item; and it is the least such. Those in use of format 1 without items are upgraded.
pub record HasOldFormat (count : ℕ) (before after : List devices.Device) (log : ℕ) : Type 0 where
  pub head : ℕ
  pub generation : ℕ
  pub used : AreUsed count before head count generation
  pub number : ℕ
  pub asked : number < count
  pub is : log ≡ head + number
  pub old : devices.HoldsOld (devices.device_at before log)
  pub least : devices.HoldNoOld head number before
  pub prepared : (l : ℕ) → l < count → devices.IsDevicePrepared (devices.device_at before (head + l)) (devices.device_at after (head + l))
  pub aside : (d : ℕ) → d < 4 → ¬ IsOnSide head count d → devices.IsOpened (devices.device_at before d) (devices.device_at after d)

-- The upgrade of this log, which is in use, of format 1 and has no item, met a fault. Those in use below it of the same kind are
-- upgraded, and all above it only opened.
pub record FailsUpgrade (count : ℕ) (before after : List devices.Device) (log : ℕ) : Type 0 where
  pub head : ℕ
  pub generation : ℕ
  pub used : AreUsed count before head count generation
  pub number : ℕ
  pub asked : number < count
  pub is : log ≡ head + number
  pub cut_off : devices.IsUpgradeCutOff (devices.device_at before log) (devices.device_at after log)
  pub rose : Rose (devices.device_at before log).faults (devices.device_at after log).faults
  pub below : (l : ℕ) → l < number → devices.IsDevicePrepared (devices.device_at before (head + l)) (devices.device_at after (head + l))
  pub above : (l : ℕ) → number < l → l < count → devices.IsOpened (devices.device_at before (head + l)) (devices.device_at after (head + l))
  pub aside : (d : ℕ) → d < 4 → ¬ IsOnSide head count d → devices.IsOpened (devices.device_at before d) (devices.device_at after d)

-- Those in use are of format 2 now, and none of them was of format 1 with an item. The others are only opened.
pub record AreMadeReady (count : ℕ) (before after : List devices.Device) : Type 0 where
  pub head : ℕ
  pub generation : ℕ
  pub used : AreUsed count before head count generation
  pub recent : devices.HoldNoOld head count before
  pub begun : devices.AreBegun head count before after

-- There was no memory: while they were opened or the set was sought, or when those in use were of format 2.
abbrev pub LacksMemory : ℕ → List devices.Device → List devices.Device → Type 0
LacksMemory count before after = devices.LacksMemory (λ log. log < 4) before after ⊎ AreMadeReady count before after

-- why the logs of a run of so many are not opened and decoded, from the devices before and after
abbrev pub AreNotRead : ℕ → List devices.Device → List devices.Device → LogsNo → Type 0
AreNotRead count before after (ending.Refused log offset cause.NotALog) = IsNotOpened before after log (refusal.NotALog offset)
AreNotRead count before after (ending.Refused log offset cause.Damage) = IsNotOpened before after log (refusal.Damage offset)
AreNotRead count before after (ending.Refused log offset (cause.LogCount kept found)) = (offset ≡ 0) × HasOtherCount count before after log kept found
AreNotRead count before after (ending.Refused log offset cause.OldFormat) = (offset ≡ 0) × HasOldFormat count before after log
AreNotRead count before after (ending.Refused log offset cause.BadRecord) = HasBadRecord count before after log offset × AreMadeReady count before after
AreNotRead count before after (ending.Refused log offset c) = ⊥
AreNotRead count before after (ending.Device log) = HasFailedDevice before after log ⊎ FailsUpgrade count before after log
AreNotRead count before after ending.Memory = LacksMemory count before after

-- ---- open logs

-- the log is open on its device, of format 2 now, and holds these records
pub record IsUsedLog (before : devices.Device) (log : LogState) (records : List Record) : Type 0 where
  pub items : List LogItem
  pub begun : IsBegunOn before (devices.as_device log) items
  pub ready : IsReadyLog log items
  pub second : log.format ≡ 2
  pub are : AreItemsOf items records

-- the log is open on its device, which was only opened
pub record IsAsideLog (before : devices.Device) (log : LogState) : Type 0 where
  pub items : List LogItem
  pub found : IsFoundOn before (devices.as_device log) items
  pub ready : IsReadyLog log items

-- All four logs are open. Those in use, so many from the head on, hold these records and are of format 2 now; none of them was of format
-- 1 with an item.
pub record AreOpenWith (before : List devices.Device) (logs : List LogState) (head generation : ℕ) (records : List (List Record)) : Type 0 where
  pub used : AreUsed (length records) before head (length records) generation
  pub recent : devices.HoldNoOld head (length records) before
  pub each : AllByRecursion (AllByRecursion IsRecord) records
  pub held : HoldLists before head records
  pub many : length logs ≡ 4
  pub within : head + length records ≤ 4
  pub in_use : (l : ℕ) → l < length records → IsUsedLog (devices.device_at before (head + l)) (log_at logs (head + l)) (records_at records l)
  pub aside : (d : ℕ) → d < 4 → ¬ IsOnSide head (length records) d → IsAsideLog (devices.device_at before d) (log_at logs d)
  pub handled : AllZip IsHandled before (map devices.as_device logs)
  -- where there is a set, its log 0 holds a record
  pub begun : 1 ≤ length records → records_at records 0 ≡ [] → (head ≡ 0) × (generation ≡ 0)
