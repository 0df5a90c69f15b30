-- What holds of every log of records. A law of `src/laws.rt` says each of these, and a proof that rests on one takes it
-- as a premise.
use Rattle.std.specs.Prelude.{◌≡◌, ℕ, ◌<◌, ◌≤◌, List, length, Option, Some, IfSome}
use Rattle.std.specs.List.{AllByRecursion}
use Rattle.snap_outside.specs.Disk.{DeviceHistory, content}
use Rattle.gate_log.specs.declared.limits.TheConstants.{LARGEST_GROUP, NEW_LOG_SIZE}
use Rattle.gate_log.specs.declared.logs.LogItem.{LogItem}
use Rattle.gate_log.specs.declared.opens.OpenNo.{OpenNo}
use Rattle.gate_log.specs.Bytes.{items_bytes, format_in, DiffersAt, IsDamagedAt}
use Rattle.gate_log.specs.Device.{DeviceLog, MayAppend, UpgradesSafely}
use Rattle.gate_log.specs.Opened.{bytes_of, Opened, Refused, MadeSafely}
use Rattle.txn_records.specs.declared.records.Record.{Record}
use Rattle.txn_records.specs.Records.{IsRecord}
use Rattle.record_log.specs.declared.limits.TheConstants.{MOST_RECORDS, FARTHEST_APPEND}
use Rattle.record_log.specs.Records.{spelled, HoldsRecords, RecordLog, AreItemsOf, IsFirstBadIn, KeepsRecords}

-- ---- bytes

-- bytes hold one list of records at most
abbrev pub OneListOfRecords : Type 0
OneListOfRecords = (bytes : List ℕ) (rs xs : List Record) → HoldsRecords bytes rs → HoldsRecords bytes xs → rs ≡ xs

-- bytes that hold records begin as each log does
abbrev pub RecordsAreNotForeign : Type 0
RecordsAreNotForeign =
    (bytes : List ℕ) (rs : List Record) (offset : ℕ) → NEW_LOG_SIZE < length bytes → HoldsRecords bytes rs → ¬ DiffersAt bytes offset

-- bytes that hold records are not damaged
abbrev pub RecordsAreNotDamaged : Type 0
RecordsAreNotDamaged =
    (bytes : List ℕ) (rs : List Record) (offset : ℕ) → NEW_LOG_SIZE < length bytes → HoldsRecords bytes rs → ¬ IsDamagedAt bytes offset

-- on a device that holds records no item is found that is no record
abbrev pub NoRecordIsBad : Type 0
NoRecordIsBad =
    (h : DeviceHistory) (new : Option DeviceHistory) (end offset : ℕ) (items : List LogItem) (rs : List Record)
    → Opened (Some h) new end items → HoldsRecords (content h) rs → ¬ IsFirstBadIn items offset

-- ---- a device

-- a device that was opened held the records that the found items are
abbrev pub OpenedHeld : Type 0
OpenedHeld =
    (h : DeviceHistory) (new : Option DeviceHistory) (end : ℕ) (items : List LogItem) (rs : List Record)
    → Opened (Some h) new end items → AreItemsOf items rs → HoldsRecords (content h) rs

-- a device with a log of these items has a log of the records that they are
abbrev pub OpenedHolds : Type 0
OpenedHolds =
    (g : DeviceHistory) (end : ℕ) (items : List LogItem) (rs : List Record)
    → DeviceLog g end (bytes_of items) → AreItemsOf items rs → RecordLog g end rs

-- what items are read as may be written
abbrev pub ItemsAreRecords : Type 0
ItemsAreRecords = (items : List LogItem) (rs : List Record) → AreItemsOf items rs → AllByRecursion IsRecord rs

-- a device with a log of records holds them
abbrev pub RecordLogHolds : Type 0
RecordLogHolds = (h : DeviceHistory) (end : ℕ) (rs : List Record) → RecordLog h end rs → HoldsRecords (content h) rs

-- opening loses no record, whatever a crash leaves
abbrev pub OpeningKeepsRecords : Type 0
OpeningKeepsRecords =
    (old new : Option DeviceHistory) (end : ℕ) (items : List LogItem)
    → Opened old new end items → MadeSafely old new → KeepsRecords old new

-- an opening that is refused loses no record, whatever a crash leaves
abbrev pub RefusalKeepsRecords : Type 0
RefusalKeepsRecords = (old new : Option DeviceHistory) (no : OpenNo) → Refused old new no → MadeSafely old new → KeepsRecords old new

-- The upgrade of an opened log of format 1 loses no record, whatever it comes to and whatever a crash leaves. The upgrade of one of format 2
-- might leave any mark, also that of format 1.
abbrev pub UpgradeKeepsRecords : Type 0
UpgradeKeepsRecords =
    (old opened new : Option DeviceHistory) (found_end end : ℕ) (items : List LogItem)
    → Opened old opened found_end items → IfSome opened (λ g. DeviceLog g end (bytes_of items)) → IfSome opened (λ g. format_in (content g) ≡ 1)
    → KeepsRecords old opened → UpgradesSafely opened new end → KeepsRecords old new

-- ---- sizes

-- a few records may be appended to a log that is not near the end of offsets
abbrev pub FewMayBeAppended : Type 0
FewMayBeAppended =
    (end : ℕ) (rs : List Record)
    → AllByRecursion IsRecord rs → length rs ≤ MOST_RECORDS → end ≤ FARTHEST_APPEND → MayAppend end (spelled rs)

-- the items of a few records are few bytes
abbrev pub FewTakeLittle : Type 0
FewTakeLittle =
    (rs : List Record) → AllByRecursion IsRecord rs → length rs ≤ MOST_RECORDS → length (items_bytes (spelled rs)) ≤ LARGEST_GROUP
