-- What opening the logs of a run leaves, and why no run begins on them. The devices are the four that there are; the run's logs, so
-- many as its text says, lie on those from the head on.
use Rattle.std.specs.Prelude.{◌≡◌, ℕ, zero, suc, ◌+◌, ◌<◌, ◌≤◌, ◌⊎◌, List, [], ◌∷◌, ◌++◌, length, Option, None, Some, IfSome, false}
use Rattle.std.specs.List.{AllByRecursion, AllZip}
use Rattle.snap_base.specs.declared.transactions.State.{State}
use Rattle.snap_outside.specs.Causes.{Rose}
use Rattle.snap_outside.specs.declared.devices.DevOp.{DevOp}
use Rattle.snap_outside.specs.Disk.{DeviceHistory, disk, content, settled, EachMoment, AddsAll}
use Rattle.gate_log.specs.declared.limits.TheConstants.{FARTHEST_END}
use Rattle.gate_log.specs.declared.logs.LogItem.{LogItem}
use Rattle.gate_log.specs.Bytes.{IsLog, IsOld}
use Rattle.gate_log.specs.Opened.{Opened}
use Rattle.gate_log.specs.State.{LogState, log_at}
use Rattle.txn_records.specs.declared.records.Record.{Record}
use Rattle.txn_records.specs.Records.{IsRecord}
use Rattle.record_log.specs.Growth.{all_records, end_behind_groups, GrewBy}
use Rattle.record_log.specs.Records.{HoldsRecords, RecordLog, KeepsRecords}
use Rattle.snap_recover.specs.declared.openings.Opening.{Opening}
use Rattle.snap_recover.specs.declared.ranges.TheConstants.{GREATEST_NUMBER}
use Rattle.log_compact.specs.declared.folds.Folded.{Folded}
use Rattle.log_compact.specs.Sets.{IsFolded}
use Rattle.log_opening.specs.declared.refusals.LogsNo.{LogsNo}
use Rattle.log_opening.specs.declared.refusals.LogsNo.TheVariants as ending
use Rattle.log_compact.specs.Compacting.{IsOnSide}
use Rattle.log_opening.specs.Devices.{Device, device_at, AreAside, AreBegun, HoldNoOld, IsBegun, IsEmptied, IsEmptyingCutOff, IsOpened, IsToBeCleared}
use Rattle.log_opening.specs.Found.{IsHandled}
pub use Rattle.log_opening.specs.Kept.{records_at}
use Rattle.log_opening.specs.Kept.{AreUsed, DeviceHolds, HoldLists}
use Rattle.log_opening.specs.Counted.{AreNotRead}
use Rattle.run_opening.specs.declared.comparisons.TheConstants.{ROOM_TO_BEGIN}
use Rattle.run_opening.specs.Begins.{Begins, GoesOn}
use Rattle.run_opening.specs.Starts.{first_record, IsStart, IsNoStart}

-- ---- a run begins

-- Each next number is at least 1, and a run that draws fewer than so many draws none that a record cannot have.
pub record HasRoomToBegin (o : Opening) : Type 0 where
  pub some_tid : 1 ≤ o.next_tid.0
  pub some_bid : 1 ≤ o.next_bid.0
  pub some_c : 1 ≤ o.next_c
  pub tids : o.next_tid.0 + ROOM_TO_BEGIN ≤ GREATEST_NUMBER
  pub bids : o.next_bid.0 + ROOM_TO_BEGIN ≤ GREATEST_NUMBER
  pub cs : o.next_c + ROOM_TO_BEGIN ≤ GREATEST_NUMBER

-- the records of all logs, where these are added to log 0
abbrev pub with_first : List (List Record) → List Record → List (List Record)
with_first [] added = []
with_first (rs ∷ logs) added = (rs ++ added) ∷ logs

-- the records as one group, where there are any
abbrev pub as_groups : List Record → List (List Record)
as_groups [] = []
as_groups (r ∷ rs) = (r ∷ rs) ∷ []

-- the groups that log n gets before those of the run, where these records are added to log 0
abbrev pub first_groups : ℕ → List Record → List (List Record)
first_groups zero added = as_groups added
first_groups (suc n) added = []

-- A log of a run: its device held these records; it was opened, with its closed gate at `end`, and upgraded where it was of format 1;
-- and since then these groups were appended, one after the other, and nothing else.
pub record IsRunLog (before : Device) (log : LogState) (end : ℕ) (records : List Record) (groups : List (List Record)) : Type 0 where
  pub opened : (mid : Option DeviceHistory) × (found : List LogItem) × Opened before.told mid end found
  pub low : end ≤ FARTHEST_END
  pub held : DeviceHolds before records
  pub grew : GrewBy before.told log.told end groups None
  pub gate : log.end ≡ end_behind_groups end groups
  pub holds : IfSome log.told (λ g. RecordLog g log.end (records ++ all_records groups))
  pub second : log.format ≡ 2
  pub ready : log.shut ≡ false
  pub later : before.faults ≤ log.faults

-- The logs in use, log 0 of which lies on the head, are open. They held these records, none of them in format 1; a run of a text with
-- these states begins on them with the opening; and what was to be written before it is written to log 0. The other devices are opened,
-- and those that are to be cleared are cleared.
pub record OpensRun (before after : List Device) (head : ℕ) (logs : List LogState) (states : List State) (o : Opening) (records : List (List Record)) (added : List Record) : Type 0 where
  pub generation : ℕ
  pub used : AreUsed (length records) before head (length records) generation
  pub start : IsStart records states o added
  pub each : AllByRecursion (AllByRecursion IsRecord) records
  pub held : HoldLists before head records
  pub recent : HoldNoOld head (length records) before
  pub as_many : length logs ≡ length records
  pub log : (n : ℕ) → n < length records
      → (end : ℕ) × IsRunLog (device_at before (head + n)) (log_at logs n) end (records_at records n) (first_groups n added)
  pub aside : AreAside head (length records) generation before after
  -- what they hold now folds to the opening
  pub folds : (f : Folded) × IsFolded (with_first records added) f × (f.opening ≡ o)

-- ---- no run begins

-- What the logs in use hold gives no run of the text. All are opened, and those in use of format 2.
pub record AreNoStart (count : ℕ) (states : List State) (before after : List Device) (no : LogsNo) : Type 0 where
  pub head : ℕ
  pub generation : ℕ
  pub used : AreUsed count before head count generation
  pub records : List (List Record)
  pub many : length records ≡ count
  pub held : HoldLists before head records
  pub why : IsNoStart head records states no
  pub recent : HoldNoOld head count before
  pub begun : AreBegun head count before after

-- A run would go on from what the logs in use hold, and the device of this log of the other side failed when it was cleared. Those below it
-- on that side are cleared, and those above it only opened, as all that are on no side.
pub record FailsClear (count : ℕ) (states : List State) (before after : List Device) (log : ℕ) : Type 0 where
  pub head : ℕ
  pub generation : ℕ
  pub used : AreUsed count before head count generation
  pub records : List (List Record)
  pub many : length records ≡ count
  pub held : HoldLists before head records
  pub begins : (o : Opening) × GoesOn records states o
  pub asked : IsToBeCleared head count generation log
  pub rose : Rose (device_at before log).faults (device_at after log).faults
  pub cut_off : IsEmptyingCutOff (device_at before log) (device_at after log)
  pub below : (d : ℕ) → IsToBeCleared head count generation d → d < log → IsEmptied (device_at before d) (device_at after d)
  pub above : (d : ℕ) → IsToBeCleared head count generation d → log < d → IsOpened (device_at before d) (device_at after d)
  pub begun : (l : ℕ) → l < count → IsBegun (device_at before (head + l)) (device_at after (head + l))
  pub rest : (d : ℕ) → d < 4 → ¬ IsOnSide head count d → ¬ IsToBeCleared head count generation d → IsOpened (device_at before d) (device_at after d)

-- There is no set, and none of the first logs, so many, holds a record.
pub record AreHeldEmpty (count : ℕ) (before : List Device) : Type 0 where
  pub used : AreUsed count before 0 count 0
  pub empty : (l : ℕ) → l < count → DeviceHolds (device_at before l) []

-- No log in use held a record, and log 0's device failed when Genesis was written. All are opened, and those in use of format 2.
pub record FailsFirst (count : ℕ) (states : List State) (before after : List Device) : Type 0 where
  pub empty : AreHeldEmpty count before
  pub rose : Rose (device_at before 0).faults (device_at after 0).faults
  pub grew : (end : ℕ) × (mid : Option DeviceHistory) × (found : List LogItem) × Opened (device_at before 0).told mid end found
      × GrewBy (device_at before 0).told (device_at after 0).told end [] (Some (first_record count states ∷ []))
  pub begun : (l : ℕ) → 0 < l → l < count → IsBegun (device_at before l) (device_at after l)
  pub aside : (d : ℕ) → d < 4 → count ≤ d → IsOpened (device_at before d) (device_at after d)

-- Why no run of a text with these states begins on so many logs: they are not opened, made ready and decoded, or what they hold
-- gives no run, and the devices got the operations of opening and of an upgrade at most; or the clearing of the other side failed; or
-- Genesis was begun and is not written.
abbrev pub IsNoRun : ℕ → List State → List Device → List Device → LogsNo → Type 0
IsNoRun count states before after answer =
    ((AreNotRead count before after answer ⊎ AreNoStart count states before after answer) × AllZip IsHandled before after)
    ⊎ (((log : ℕ) × (answer ≡ ending.Device log) × FailsClear count states before after log)
    ⊎ ((answer ≡ ending.Device 0) × FailsFirst count states before after))

-- ---- crashes

-- the image holds these records, or these with all that are added; and is no log of format 1 with an item, where the bytes were none
abbrev pub IsKeptOrAdded : List ℕ → List Record → List Record → List ℕ → Type 0
IsKeptOrAdded bytes rs added image = (HoldsRecords image rs ⊎ HoldsRecords image (rs ++ added)) × (¬ IsOld bytes → ¬ IsOld image)

-- Whatever a crash leaves at any moment of the call holds the records that the device held, or these with all that are added; and it is no
-- log of format 1 with an item, where the device held none.
abbrev pub KeepsOrAdds : Option DeviceHistory → Option DeviceHistory → List Record → Type 0
KeepsOrAdds old new added =
    IfSome old (λ h. (ops : List DevOp) × AddsAll old new ops
    × (disk h ≡ settled (content h) → (rs : List Record) → HoldsRecords (content h) rs
    → EachMoment (disk h) ops (IsKeptOrAdded (content h) rs added)))

-- Whatever a crash leaves at any moment of the call holds the records that the device held, or none.
abbrev pub KeepsOrEmpties : Option DeviceHistory → Option DeviceHistory → Type 0
KeepsOrEmpties old new =
    IfSome old (λ h. (ops : List DevOp) × AddsAll old new ops
    × (disk h ≡ settled (content h) → (rs : List Record) → HoldsRecords (content h) rs
    → EachMoment (disk h) ops (λ image. HoldsRecords image rs ⊎ HoldsRecords image [])))

-- a crash at any moment leaves the records of all devices
abbrev pub KeepAll : List Device → List Device → Type 0
KeepAll before after = AllZip (λ (b a : Device). KeepsRecords b.told a.told) before after

-- A crash at any moment leaves the records of all devices, or none of those that are to be cleared. There is a set of so many logs.
pub record ClearsSideSafely (count : ℕ) (before after : List Device) : Type 0 where
  pub head : ℕ
  pub generation : ℕ
  pub used : AreUsed count before head count generation
  pub checkpoint : 1 ≤ generation
  pub cleared : (d : ℕ) → d < 4 → IsToBeCleared head count generation d → KeepsOrEmpties (device_at before d).told (device_at after d).told
  pub kept : (d : ℕ) → d < 4 → ¬ IsToBeCleared head count generation d → KeepsRecords (device_at before d).told (device_at after d).told

-- A crash at any moment leaves the records of all devices; no log in use held one, and Genesis may be left on log 0.
pub record BeginsSafely (count : ℕ) (states : List State) (before after : List Device) : Type 0 where
  pub empty : AreHeldEmpty count before
  pub first : KeepsOrAdds (device_at before 0).told (device_at after 0).told (first_record count states ∷ [])
  pub others : (d : ℕ) → 0 < d → d < 4 → KeepsRecords (device_at before d).told (device_at after d).told

-- A crash at any moment leaves the records of all devices; only of the other side of a set with a checkpoint it may leave none, and only
-- where no log in use held one, it may leave Genesis on log 0.
abbrev pub AreSafe : ℕ → List State → List Device → List Device → Type 0
AreSafe count states before after = KeepAll before after ⊎ (ClearsSideSafely count before after ⊎ BeginsSafely count states before after)

-- ---- nothing stands in the way

-- the device tells that it holds these records
abbrev pub TellsRecords : Device → List Record → Type 0
TellsRecords d rs = (h : DeviceHistory) × (d.told ≡ Some h) × HoldsRecords (content h) rs

-- the device tells that it holds a log
abbrev pub TellsLog : Device → Type 0
TellsLog d = (h : DeviceHistory) × (items : List (List ℕ)) × (d.told ≡ Some h) × IsLog (content h) items

-- Each device tells that it holds a log. Those in use hold records on which a run of the text begins, none of them in format 1. No
-- device's count rises.
pub record MayOpen (count : ℕ) (states : List State) (before after : List Device) (records : List (List Record)) (o : Opening) : Type 0 where
  pub head : ℕ
  pub generation : ℕ
  pub used : AreUsed count before head count generation
  pub many : length records ≡ count
  pub told : (l : ℕ) → l < count → TellsRecords (device_at before (head + l)) (records_at records l)
  pub each : (d : ℕ) → d < 4 → TellsLog (device_at before d)
  pub recent : HoldNoOld head count before
  pub begins : Begins records states o
  pub quiet : (d : ℕ) → d < 4 → ¬ Rose (device_at before d).faults (device_at after d).faults
