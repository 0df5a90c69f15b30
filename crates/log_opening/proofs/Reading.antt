-- What the items of the logs in use are, and what these hold.
use Rattle.std.proofs.Common.{◌≡◌, ℕ, zero, suc, ◌+◌, ◌<◌, ◌≤◌, List, [], ◌∷◌, ◌++◌, length, get_or, take, sym, ◌∙◌, ap, subst, arith, Option, Some, None}
use Rattle.std.proofs.lemmas.List.{get_or-take, length-take-le}
use Rattle.std.proofs.lemmas.Slice.Zip.{AllZip-long}
use Rattle.std.specs.Prelude.{IfSome, slice_range}
use Rattle.std.specs.List.{AllZip, AllByRecursion}
use Rattle.snap_outside.specs.Disk.{DeviceHistory, content}
use Rattle.gate_log.specs.declared.logs.LogItem.{LogItem}
use Rattle.gate_log.specs.Opened.{Opened}
use Rattle.gate_log.specs.State.{LogState, log_at}
use Rattle.txn_records.specs.declared.records.Record.{Record}
use Rattle.txn_records.specs.Records.{IsRecord}
use Rattle.record_log.specs.Records.{HoldsRecords, AreItemsOf, IsFirstBadIn}
use Rattle.record_log.specs.RecordLogLaws.{OpenedHeld, ItemsAreRecords}
use Rattle.snap_recover.specs.declared.causes.LogCause.TheVariants as cause
use Rattle.log_opening.specs.declared.refusals.LogsNo.{LogsNo}
use Rattle.log_opening.specs.declared.refusals.LogsNo.TheVariants as ending
use Rattle.log_opening.specs.Devices.{Device, as_device, device_at}
use Rattle.log_opening.specs.Found.{AreAllFound, ArePlaced, IsFoundOn, IsNoReading, IsNoDecoding}
use Rattle.log_opening.specs.Kept.{AreGiven, AreUsed, DeviceHolds, HasBadRecord, HoldLists, records_at}
use Rattle.log_opening.specs.Upgrades.{items_at}
use Rattle.log_opening.proofs.AllFound.{found_at, found_many}
use Rattle.log_opening.proofs.Numbers.{each_zip, part_at, part_long}

-- ---- what the devices hold

holds_told : OpenedHeld → (old new : Option DeviceHistory) (end : ℕ) (items : List LogItem) (rs : List Record) → Opened old new end items → AreItemsOf items rs → IfSome old (λ h. HoldsRecords (content h) rs)
holds_told held None new end items rs opened are = tt
holds_told held (Some h) new end items rs opened are = held h new end items rs opened are

pub holds_of : OpenedHeld → (b a : Device) (items : List LogItem) (rs : List Record) → IsFoundOn b a items → AreItemsOf items rs → DeviceHolds b rs
holds_of held b a items rs on are = holds_told held b.told a.told on.opened.0 items rs on.opened.1 are

pub placed_at : (found : List (List LogItem)) (i : ℕ) (d : List LogItem) → i < length found → AllByRecursion ArePlaced found → ArePlaced (get_or found i d)
placed_at [] i d lt all = absurd (omega (arith, lt))
placed_at (f ∷ fs) zero d lt all = all.0
placed_at (f ∷ fs) (suc i) d lt all = placed_at fs i d (omega (arith, lt)) all.1

pub each_record : ItemsAreRecords → (found : List (List LogItem)) (logs : List (List Record)) → AllZip AreItemsOf found logs → AllByRecursion (AllByRecursion IsRecord) logs
each_record each [] [] all = tt
each_record each [] (l ∷ ls) all = absurd all
each_record each (f ∷ fs) [] all = absurd all
each_record each (f ∷ fs) (l ∷ ls) all = (each f l all.0, each_record each fs ls all.1)

-- ---- the logs in use

-- The logs in use are so many from the head on, and these are the items that were found in them.
pub record IsPart (found part : List (List LogItem)) (head count : ℕ) : Type 0 where
  pub is : part ≡ slice_range found head (head + count)
  pub within : head + count ≤ 4

module _ (law : OpenedHeld) (before : List Device) (logs : List LogState) (found part : List (List LogItem)) (head count : ℕ) (all : AreAllFound before logs found) (is : IsPart found part head count) where
  pub part_many : length part ≡ count
  part_many = ap (λ (l : List (List LogItem)). length l) is.is ∙ part_long found head count (omega (arith, is.within, found_many before logs found all))

  items_there : (l : ℕ) → l < count → get_or part l [] ≡ items_at found (head + l)
  items_there l lt = ap (λ (p : List (List LogItem)). get_or p l []) is.is ∙ part_at found head count l [] lt

  -- those of the first of them, so many
  pub first_items : (lists : List (List Record)) → length lists ≤ count → AllZip AreItemsOf (take (length lists) part) lists → (l : ℕ) → l < length lists → AreItemsOf (items_at found (head + l)) (records_at lists l)
  first_items lists few zip l lt =
      let size : length (take (length lists) part) ≡ length lists = length-take-le (length lists) part (omega (arith, few, part_many)) in
      let one : AreItemsOf (get_or (take (length lists) part) l []) (records_at lists l) = each_zip AreItemsOf (take (length lists) part) lists [] [] l zip (omega (arith, lt, size)) in
      subst (λ (items : List LogItem). AreItemsOf items (records_at lists l)) (get_or-take (length lists) part l [] lt ∙ items_there l (omega (arith, lt, few))) one

  pub lists_many : (lists : List (List Record)) → AllZip AreItemsOf part lists → length lists ≡ count
  lists_many lists zip = AllZip-long AreItemsOf part lists zip ∙ part_many

  pub all_items : (lists : List (List Record)) → AllZip AreItemsOf part lists → (l : ℕ) → l < count → AreItemsOf (items_at found (head + l)) (records_at lists l)
  all_items lists zip l lt =
      subst (λ (items : List LogItem). AreItemsOf items (records_at lists l)) (items_there l lt) (each_zip AreItemsOf part lists [] [] l zip (omega (arith, lt, part_many)))

  held_from : (lists : List (List Record)) → length lists ≤ count → ((l : ℕ) → l < length lists → AreItemsOf (items_at found (head + l)) (records_at lists l)) → HoldLists before head lists
  held_from lists few each = λ l lt.
      holds_of law (device_at before (head + l)) (as_device (log_at logs (head + l))) (items_at found (head + l)) (records_at lists l)
      (found_at before logs found all (head + l) (omega (arith, lt, few, is.within))) (each l lt)

  pub lists_held : (lists : List (List Record)) → AllZip AreItemsOf part lists → HoldLists before head lists
  lists_held lists zip =
      let many = lists_many lists zip in
      held_from lists (omega (arith, many)) (λ l lt. all_items lists zip l (omega (arith, lt, many)))

  pub given_lists : ItemsAreRecords → (generation : ℕ) (lists : List (List Record)) → AreUsed 1 before head count generation → AllZip AreItemsOf part lists → AreGiven before head lists
  given_lists each generation lists used zip = record {
    generation = generation;
    used = subst (λ (n : ℕ). AreUsed 1 before head n generation) (sym (lists_many lists zip)) used;
    each = each_record each part lists zip;
    held = lists_held lists zip;
  }

  -- an item of one of them is no record
  pub bad_record : (many generation : ℕ) (after : List Device) (log offset : ℕ) → AreUsed many before head count generation → IsNoDecoding head part (ending.Refused log offset cause.BadRecord) → HasBadRecord many before after log offset
  bad_record many generation after log offset used why =
      let below = why.0 in
      let fewer : length below < count = omega (arith, why.2, part_many) in
      let on = found_at before logs found all (head + length below) (omega (arith, fewer, is.within)) in
      let bad : IsFirstBadIn (items_at found (head + length below)) offset = subst (λ (items : List LogItem). IsFirstBadIn items offset) (items_there (length below) fewer) why.4 in
      record {
        head = head;
        count = count;
        generation = generation;
        used = used;
        below = below;
        held = held_from below (omega (arith, fewer)) (first_items below (omega (arith, fewer)) why.3);
        asked = fewer;
        is = why.1;
        bad = subst (λ (n : ℕ). (end : ℕ) × (opened : Option DeviceHistory) × (items : List LogItem) × Opened (device_at before n).told opened end items × IsFirstBadIn items offset) (sym why.1)
            (on.opened.0, (log_at logs (head + length below)).told, items_at found (head + length below), on.opened.1, bad);
      }

-- ---- one more log

zip_next : (found : List (List LogItem)) (logs : List (List Record)) (log : ℕ) (rs : List Record) → log < length found → AllZip AreItemsOf (take log found) logs
    → AreItemsOf (get_or found log []) rs → AllZip AreItemsOf (take (suc log) found) (logs ++ rs ∷ [])
zip_next [] logs log rs lt all are = absurd (omega (arith, lt))
zip_next (f ∷ found) [] zero rs lt all are = (are, tt)
zip_next (f ∷ found) (l ∷ logs) zero rs lt all are = absurd all
zip_next (f ∷ found) [] (suc log) rs lt all are = absurd all
zip_next (f ∷ found) (l ∷ logs) (suc log) rs lt all are = (all.0, zip_next found logs log rs (omega (arith, lt)) all.1 are)

pub zip_more : (found : List (List LogItem)) (logs pushed : List (List Record)) (log : ℕ) (rs : List Record) → log < length found → pushed ≡ logs ++ rs ∷ []
    → AllZip AreItemsOf (take log found) logs → AreItemsOf (get_or found log []) rs → AllZip AreItemsOf (take (log + 1) found) pushed
zip_more found logs pushed log rs lt push all are =
    let next : suc log ≡ log + 1 = omega arith in
    subst (λ (n : ℕ). AllZip AreItemsOf (take n found) pushed) next
    (subst (λ (ls : List (List Record)). AllZip AreItemsOf (take (suc log) found) ls) (sym push) (zip_next found logs log rs lt all are))

-- an item is no record
pub bad_among : (head : ℕ) (found : List (List LogItem)) (number : ℕ) (lists : List (List Record)) (answer : LogsNo) → number < length found → AllZip AreItemsOf (take number found) lists
    → IsNoReading (get_or found number []) (head + number) answer → IsNoDecoding head found answer
bad_among head found number lists (ending.Refused log offset cause.BadRecord) lt all why =
    let size : length lists ≡ number = AllZip-long AreItemsOf (take number found) lists all ∙ length-take-le number found (omega (arith, lt)) in (
      lists,
      omega (arith, why.0, size),
      omega (arith, size, lt),
      subst (λ (n : ℕ). AllZip AreItemsOf (take n found) lists) (sym size) all,
      subst (λ (n : ℕ). IsFirstBadIn (get_or found n []) offset) (sym size) why.1,
    )
bad_among head found number lists (ending.Refused log offset c) lt all why = absurd why
bad_among head found number lists (ending.Device log) lt all why = absurd why
bad_among head found number lists ending.Memory lt all why = tt
