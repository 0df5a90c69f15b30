-- A log whose items are records: as bytes, on a device, and after a crash.
use Rattle.std.specs.Prelude.{◌≡◌, ℕ, ◌+◌, ◌⊎◌, List, [], ◌∷◌, ◌++◌, map, Option, IfSome, ⊤}
use Rattle.std.specs.List.{AllByRecursion}
use Rattle.snap_outside.specs.declared.devices.DevOp.{DevOp}
use Rattle.snap_outside.specs.Disk.{DeviceHistory, disk, content, settled, EachMoment, AddsAll}
use Rattle.gate_log.specs.declared.logs.LogItem.{LogItem}
use Rattle.gate_log.specs.Bytes.{IsLog, IsOld}
use Rattle.gate_log.specs.Device.{DeviceLog}
use Rattle.txn_records.specs.declared.records.Record.{Record}
use Rattle.txn_records.specs.Records.{record_bytes, IsRecord}
use Rattle.txn_records.specs.Faults.{IsFirstBad}
use Rattle.record_log.specs.declared.items.ItemsNo.{ItemsNo}
use Rattle.record_log.specs.declared.items.ItemsNo.TheVariants.{BadRecord, Memory}

-- the items of records
abbrev pub spelled : List Record → List (List ℕ)
spelled rs = map record_bytes rs

-- the bytes are a log of these records
pub record HoldsRecords (bytes : List ℕ) (rs : List Record) : Type 0 where
  pub log : IsLog bytes (spelled rs)
  pub each : AllByRecursion IsRecord rs

-- The device holds a log of these records whose closed gate stands at `end`, and nothing of it is loose.
pub record RecordLog (h : DeviceHistory) (end : ℕ) (rs : List Record) : Type 0 where
  pub log : DeviceLog h end (spelled rs)
  pub each : AllByRecursion IsRecord rs

-- ---- items that are records

-- the item is the record's bytes
abbrev pub IsItemOf : LogItem → Record → Type 0
IsItemOf item r = IsRecord r × (item.bytes ≡ record_bytes r)

-- each item is a record, in order
abbrev pub AreItemsOf : List LogItem → List Record → Type 0
AreItemsOf [] rs = rs ≡ []
AreItemsOf (item ∷ items) rs = (r : Record) × (more : List Record) × (rs ≡ r ∷ more) × IsItemOf item r × AreItemsOf items more

-- the offset in the file of the first byte at which no record goes on, in the first item that is none
abbrev pub IsFirstBadIn : List LogItem → ℕ → Type 0
IsFirstBadIn items offset =
    (front behind : List LogItem) × (item : LogItem) × (bad : ℕ)
    × (items ≡ front ++ item ∷ behind) × ((rs : List Record) × AreItemsOf front rs)
    × IsFirstBad item.bytes bad × (offset ≡ item.at + bad)

-- why the items are no records
abbrev pub AreNoRecords : List LogItem → ItemsNo → Type 0
AreNoRecords items (BadRecord offset) = IsFirstBadIn items offset
AreNoRecords items Memory = ⊤

-- ---- crashes

-- the image holds these records, and is no log of format 1 with an item, where the bytes were none
abbrev pub IsKeptImage : List ℕ → List Record → List ℕ → Type 0
IsKeptImage bytes rs image = HoldsRecords image rs × (¬ IsOld bytes → ¬ IsOld image)

-- Whatever a crash leaves at any moment of the call holds the records that the device held, if it was settled; and it is no log of format 1
-- with an item, where the device held none.
abbrev pub KeepsRecords : Option DeviceHistory → Option DeviceHistory → Type 0
KeepsRecords old new =
    IfSome old (λ h. (ops : List DevOp) × AddsAll old new ops
    × (disk h ≡ settled (content h) → (rs : List Record) → HoldsRecords (content h) rs
    → EachMoment (disk h) ops (IsKeptImage (content h) rs)))

-- The device held these records; now it holds the same with some added.
abbrev pub AppendsRecords : Option DeviceHistory → Option DeviceHistory → ℕ → ℕ → List Record → Type 0
AppendsRecords old new end_before end_after added =
    IfSome old (λ h. IfSome new (λ g. (rs : List Record) → RecordLog h end_before rs → RecordLog g end_after (rs ++ added)))

-- Whatever a crash leaves at any moment of the call holds the records from before it, or these with all that are added.
abbrev pub CrashesRecords : Option DeviceHistory → Option DeviceHistory → ℕ → List Record → Type 0
CrashesRecords old new end added =
    IfSome old (λ h. (ops : List DevOp) × AddsAll old new ops
    × ((rs : List Record) → RecordLog h end rs → EachMoment (disk h) ops (λ image. HoldsRecords image rs ⊎ HoldsRecords image (rs ++ added))))
