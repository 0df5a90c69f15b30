-- What readings of four devices tell of these.
use Rattle.std.proofs.Common.{◌≡◌, ℕ, ◌+◌, ◌<◌, ◌≤◌, inl, inr, List, [], ◌∷◌, length, subst, ◌∙◌, arith, Option, Some, None}
use Rattle.std.proofs.lemmas.Slice.Zip.{AllZip-long}
use Rattle.std.specs.Prelude.{IfSome}
use Rattle.std.specs.List.{AllByRecursion, AllZip}
use Rattle.snap_outside.specs.Disk.{DeviceHistory, content}
use Rattle.gate_log.specs.declared.logs.LogItem.{LogItem}
use Rattle.gate_log.specs.LogLaws.{PlacedIsLogAt}
use Rattle.gate_log.specs.Opened.{bytes_of}
use Rattle.txn_records.specs.declared.records.Record.{Record}
use Rattle.txn_records.specs.declared.records.Record.TheVariants.{Genesis}
use Rattle.txn_records.specs.Records.{IsRecord}
use Rattle.record_log.specs.RecordLogLaws.{ItemsAreRecords, OpenedHeld}
use Rattle.record_log.specs.Records.{AreItemsOf, HoldsRecords}
use Rattle.log_compact.specs.Finding.{HasNoSet, lists_at}
use Rattle.log_compact.specs.Fronts.{HoldsFront, IsFront}
use Rattle.log_compact.specs.Sets.{IsSet}
use Rattle.log_reading.specs.Read.{IsReadFrom}
use Rattle.log_reading.specs.ReadLaws.{ReadIsOpened}
use Rattle.log_opening.specs.Devices.{Device, device_at}
use Rattle.log_opening.specs.Kept.{HoldLists, records_at}
use Rattle.log_opening.specs.Upgrades.{items_at}
use Rattle.log_opening.proofs.Numbers.{each_zip, part_at, part_long}
use Rattle.log_opening.proofs.ReadyOne.{opened_items}
use Rattle.log_following.specs.Followed.{HoldFronts, HoldNoSet, HoldSet, IsOneReading}
use Rattle.log_following.specs.Readings.{AreAllRead}
use Rattle.log_following.specs.Steps.{HaveFronts, used_of}

-- ---- one device

read_holds : ReadIsOpened → OpenedHeld → (told : Option DeviceHistory) (items : List LogItem) (rs : List Record) → IfSome told (λ h. IsReadFrom (content h) items) → AreItemsOf items rs
    → IfSome told (λ h. HoldsRecords (content h) rs)
read_holds opened held None items rs read are = tt
read_holds opened held (Some h) items rs read are = let open_now = opened h items read in held h open_now.0 open_now.1 items rs open_now.2 are

read_front : ReadIsOpened → PlacedIsLogAt → (told : Option DeviceHistory) (items : List LogItem) (front : List Record) → IfSome told (λ h. IsReadFrom (content h) items) → IsFront (bytes_of items) front
    → IfSome told (λ h. HoldsFront (content h) front)
read_front opened placed None items front read is = tt
read_front opened placed (Some h) items front read is =
    let open_now = opened h items read in (bytes_of items, opened_items placed h open_now.0 open_now.1 items open_now.2, is)

-- ---- the set

-- the list of items behind which nothing stands has no records in front
front_at : (items : List (List LogItem)) (fronts : List (List Record)) (d : ℕ) → HaveFronts items fronts → d < length items → IsFront (bytes_of (items_at items d)) (lists_at fronts d)
front_at items fronts d have lt = each_zip (λ (is : List LogItem) (front : List Record). IsFront (bytes_of is) front) items fronts [] [] d have lt

pub fronts_read : ReadIsOpened → PlacedIsLogAt → (devices : List Device) (items : List (List LogItem)) (fronts : List (List Record)) → AreAllRead devices items → HaveFronts items fronts → HoldFronts devices (lists_at fronts)
fronts_read opened placed devices items fronts read have d lt =
    read_front opened placed (device_at devices d).told (items_at items d) (lists_at fronts d) (read.each d lt) (front_at items fronts d have (omega (arith, lt, read.many)))

pub set_read : ReadIsOpened → PlacedIsLogAt → (devices : List Device) (items : List (List LogItem)) (head count generation : ℕ) → AreAllRead devices items
    → (fronts : List (List Record)) → HaveFronts items fronts → IsSet (lists_at fronts) head count generation → HoldSet devices head count generation
set_read opened placed devices items head count generation read fronts have set = record {
  fronts = lists_at fronts;
  each = fronts_read opened placed devices items fronts read have;
  set = set;
}

pub no_set_read : ReadIsOpened → PlacedIsLogAt → (devices : List Device) (items : List (List LogItem)) → AreAllRead devices items → (fronts : List (List Record)) → HaveFronts items fronts → HasNoSet (lists_at fronts)
    → HoldNoSet devices
no_set_read opened placed devices items read fronts have none = record {
  fronts = lists_at fronts;
  each = fronts_read opened placed devices items fronts read have;
  none = none;
}

genesis_is : (front : List Record) (count : ℕ) (first : List _) (rest : List Record) → front ≡ Genesis count first ∷ rest → AllByRecursion IsRecord front → (1 ≤ count) × (count ≤ 4)
genesis_is front count first rest begins each =
    let all : AllByRecursion IsRecord (Genesis count first ∷ rest) = subst (λ (l : List Record). AllByRecursion IsRecord l) begins each in (all.0.some_logs, all.0.few_logs)

-- a set is among the four
pub set_within : (items : List (List LogItem)) (fronts : List (List Record)) (head count generation : ℕ) → length items ≡ 4 → HaveFronts items fronts → IsSet (lists_at fronts) head count generation
    → (1 ≤ count) × (head + count ≤ 4)
set_within items fronts head count generation four have set =
    let low : head < 3 = set.is_head.low in
    let front = front_at items fronts head have (omega (arith, low, four)) in
    let is = genesis_is (lists_at fronts head) count set.first set.is_head.rest set.is_head.begins front.each in
    (is.0, elim (set.is_head.side) [ inl first ↦ omega (arith, first, is.1) | inr same ↦ omega (arith, same, low) ])

-- ---- a reading of the logs in use

pub used_length : {X : Type 0} (head count : ℕ) (xs : List X) → head + count ≤ length xs → length (used_of head count xs) ≡ count
used_length head count xs le = part_long xs head count le

pub used_at : (head count l : ℕ) (items : List (List LogItem)) → l < count → items_at (used_of head count items) l ≡ items_at items (head + l)
used_at head count l items lt = part_at items head count l [] lt

all_records : ItemsAreRecords → (items : List (List LogItem)) (lists : List (List Record)) → AllZip AreItemsOf items lists → AllByRecursion (AllByRecursion IsRecord) lists
all_records law [] [] are = tt
all_records law [] (rs ∷ lists) are = absurd are
all_records law (is ∷ items) [] are = absurd are
all_records law (is ∷ items) (rs ∷ lists) are = (law is rs are.0, all_records law items lists are.1)

pub reading_of : ReadIsOpened → OpenedHeld → ItemsAreRecords → (devices : List Device) (items : List (List LogItem)) (head count : ℕ) (lists : List (List Record)) → AreAllRead devices items → head + count ≤ 4
    → AllZip AreItemsOf (used_of head count items) lists → IsOneReading devices head count lists
reading_of opened held law devices items head count lists read within are = record {
  many = many;
  each = all_records law (used_of head count items) lists are;
  held = holds;
} where
  size : length (used_of head count items) ≡ count
  size = used_length head count items (omega (arith, within, read.many))

  many : length lists ≡ count
  many = AllZip-long AreItemsOf (used_of head count items) lists are ∙ size

  holds : HoldLists devices head lists
  holds l lt =
      let below : l < count = omega (arith, lt, many) in
      let mine : AreItemsOf (items_at (used_of head count items) l) (records_at lists l) = each_zip AreItemsOf (used_of head count items) lists [] [] l are (omega (arith, below, size)) in
      read_holds opened held (device_at devices (head + l)).told (items_at items (head + l)) (records_at lists l) (read.each (head + l) (omega (arith, below, within)))
      (subst (λ (is : List LogItem). AreItemsOf is (records_at lists l)) (used_at head count l items below) mine)
