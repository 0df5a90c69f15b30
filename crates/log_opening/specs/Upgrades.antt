-- What upgrading open logs leaves of them.
use Rattle.std.specs.Prelude.{◌≡◌, ◌≢◌, ℕ, ◌+◌, ◌==◌, ◌<◌, ◌≤◌, ◌⊎◌, if◌then◌else◌, Bool, false, Option, IfSome, List, [], ◌∷◌, length, slice_index_or}
use Rattle.snap_outside.specs.Causes.{Rose}
use Rattle.snap_outside.specs.Disk.{DeviceHistory, content, AddsAll, AddsUpToFault}
use Rattle.gate_log.specs.declared.logs.LogItem.{LogItem}
use Rattle.gate_log.specs.Appends.{upgrade_ops}
use Rattle.gate_log.specs.Bytes.{format_in}
use Rattle.gate_log.specs.Device.{Upgraded, UpgradesSafely}
use Rattle.gate_log.specs.Opened.{Opened}
use Rattle.gate_log.specs.State.{LogState, log_at}
use Rattle.snap_recover.specs.declared.causes.LogCause.TheVariants as cause
use Rattle.log_compact.specs.Compacting.{IsOnSide}
use Rattle.log_opening.specs.Devices.{Device, device_at, IsBegun, IsOpened}
use Rattle.log_opening.specs.declared.refusals.LogsNo.{LogsNo}
use Rattle.log_opening.specs.declared.refusals.LogsNo.TheVariants as ending

-- ---- one log

-- the log holds what it held, and is of format 2
pub record IsUpgraded (old new : LogState) : Type 0 where
  pub adds : AddsAll old.told new.told upgrade_ops
  pub upgraded : Upgraded old.told new.told old.end
  pub safe : UpgradesSafely old.told new.told old.end
  pub second : new.format ≡ 2
  pub gate : new.end ≡ old.end
  pub ready : new.shut ≡ false
  pub later : old.faults ≤ new.faults

-- the upgrade of the log met a failing device, and no item is lost
pub record IsUpgradeFailed (old new : LogState) : Type 0 where
  pub adds : AddsUpToFault old.told new.told upgrade_ops
  pub safe : UpgradesSafely old.told new.told old.end
  pub rose : Rose old.faults new.faults
  pub later : old.faults ≤ new.faults

-- ---- logs that are made ready for appends, but those for which items are listed

-- The log is as it was, since it is not of format 1 or these are some items; or it is upgraded.
abbrev pub IsMadeReady : LogState → LogState → List LogItem → Type 0
IsMadeReady old new items =
    ((new ≡ old) × ((old.format ≢ 1) ⊎ (items ≢ [])))
    ⊎ ((items ≡ []) × (old.format ≡ 1) × IsUpgraded old new)

-- the log was to be upgraded, and its device failed
abbrev pub IsNotMadeReady : LogState → LogState → List LogItem → Type 0
IsNotMadeReady old new items = (items ≡ []) × (old.format ≡ 1) × IsUpgradeFailed old new

-- the items that are listed for a log, and none past the last list
abbrev pub items_at : List (List LogItem) → ℕ → List LogItem
items_at found n = slice_index_or found n []

-- Of the logs from this one on so many are made ready. The others are as they were.
pub record AreReadyBelow (from n : ℕ) (old new : List LogState) (found : List (List LogItem)) : Type 0 where
  pub many : length new ≡ length old
  pub below : (l : ℕ) → l < n → IsMadeReady (log_at old (from + l)) (log_at new (from + l)) (items_at found (from + l))
  pub others : (d : ℕ) → ¬ IsOnSide from n d → log_at new d ≡ log_at old d

-- so many logs from this one on are made ready, and each of them is of format 2
pub record AreAllReady (from count : ℕ) (old new : List LogState) (found : List (List LogItem)) : Type 0 where
  pub all : AreReadyBelow from count old new found
  pub second : (l : ℕ) → l < count → (log_at new (from + l)).format ≡ 2

-- Of so many logs from this one on the upgrade of the one with this number failed; those below it are ready, and all others as they were.
pub record IsStopped (from count n : ℕ) (old new : List LogState) (found : List (List LogItem)) : Type 0 where
  pub asked : n < count
  pub many : length new ≡ length old
  pub below : (l : ℕ) → l < n → IsMadeReady (log_at old (from + l)) (log_at new (from + l)) (items_at found (from + l))
  pub failed : IsNotMadeReady (log_at old (from + n)) (log_at new (from + n)) (items_at found (from + n))
  pub others : (d : ℕ) → ¬ IsOnSide from (n + 1) d → log_at new d ≡ log_at old d

-- So many logs from this one on are made ready, but the one with this number is of format 1, and is the least such.
pub record IsLeftOld (from count n : ℕ) (old new : List LogState) (found : List (List LogItem)) : Type 0 where
  pub asked : n < count
  pub all : AreReadyBelow from count old new found
  pub old_format : (log_at new (from + n)).format ≡ 1
  pub least : (l : ℕ) → l < n → (log_at new (from + l)).format ≡ 2

-- why so many logs from this one on are not ready for appends
abbrev pub AreNotReady : ℕ → ℕ → List LogState → List LogState → List (List LogItem) → LogsNo → Type 0
AreNotReady from count old new found (ending.Refused log offset cause.OldFormat) =
    (offset ≡ 0) × ((n : ℕ) × (log ≡ from + n) × IsLeftOld from count n old new found)
AreNotReady from count old new found (ending.Refused log offset c) = ⊥
AreNotReady from count old new found (ending.Device log) = (n : ℕ) × (log ≡ from + n) × IsStopped from count n old new found
AreNotReady from count old new found ending.Memory = ⊥

-- how many of the logs are of format 1
abbrev pub old_count : List LogState → ℕ
old_count [] = 0
old_count (l ∷ logs) = (if l.format == 1 then 1 else 0) + old_count logs

-- ---- logs all of which are made ready

-- So many of these devices hold a log of format 1, where they tell what they hold.
abbrev pub AreOld : List Device → ℕ → Type 0
AreOld [] count = count ≡ 0
AreOld (d ∷ devices) count =
    (others : ℕ) × (old : Bool) × AreOld devices others × (count ≡ (if old then 1 else 0) + others)
    × IfSome d.told (λ h. old ≡ (format_in (content h) == 1))

-- The device was opened, its log was of format 1, and the upgrade met a fault.
abbrev pub IsBeginningCutOff : Device → Device → Type 0
IsBeginningCutOff before after =
    (end : ℕ) × (found : List LogItem) × (opened : Option DeviceHistory) × Opened before.told opened end found
    × IfSome before.told (λ h. format_in (content h) ≡ 1)
    × AddsUpToFault opened after.told upgrade_ops

-- Of the logs in use, so many from the head on, the upgrade of this one failed; those in use below it are of format 2, and all others are
-- only opened.
pub record FailsBeginning (head count : ℕ) (before after : List Device) (log : ℕ) : Type 0 where
  pub number : ℕ
  pub asked : number < count
  pub is : log ≡ head + number
  pub cut_off : IsBeginningCutOff (device_at before log) (device_at after log)
  pub rose : Rose (device_at before log).faults (device_at after log).faults
  pub below : (l : ℕ) → l < number → IsBegun (device_at before (head + l)) (device_at after (head + l))
  pub above : (l : ℕ) → number < l → l < count → IsOpened (device_at before (head + l)) (device_at after (head + l))
  pub aside : (d : ℕ) → d < 4 → ¬ IsOnSide head count d → IsOpened (device_at before d) (device_at after d)

-- why not all logs in use are of format 2
abbrev pub IsNotBegun : ℕ → ℕ → List Device → List Device → LogsNo → Type 0
IsNotBegun head count before after (ending.Device log) = FailsBeginning head count before after log
IsNotBegun head count before after (ending.Refused log offset c) = ⊥
IsNotBegun head count before after ending.Memory = ⊥
