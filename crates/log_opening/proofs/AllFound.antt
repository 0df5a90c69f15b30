-- All four logs, opened, and which of them are in use.
use Rattle.std.proofs.Common.{◌≡◌, ℕ, zero, suc, ◌+◌, ◌<◌, ◌≤◌, inl, inr, List, [], ◌∷◌, length, get_or, map, take, sym, ◌∙◌, subst, arith, Option, Some, None}
use Rattle.std.proofs.lemmas.List.{drop_all, length-map, take_all}
use Rattle.std.proofs.lemmas.Slice.Zip.{AllZip-long}
use Rattle.std.specs.Prelude.{IfSome, false}
use Rattle.std.specs.List.{AllByRecursion, AllZip}
use Rattle.snap_base.specs.declared.transactions.State.{State}
use Rattle.snap_outside.specs.Disk.{DeviceHistory, content}
use Rattle.gate_log.specs.declared.logs.LogItem.{LogItem}
use Rattle.gate_log.specs.LogLaws.{PlacedIsLogAt}
use Rattle.gate_log.specs.Opened.{Opened, bytes_of}
use Rattle.gate_log.specs.State.{LogState, log_at}
use Rattle.txn_records.specs.declared.records.Record.{Record}
use Rattle.txn_records.specs.declared.records.Record.TheVariants.{Genesis}
use Rattle.txn_records.specs.Records.{IsRecord}
use Rattle.log_compact.specs.Finding.{lists_at, IsUsed}
use Rattle.log_compact.specs.Fronts.{HoldsFront, IsFront}
use Rattle.log_compact.specs.Sets.{IsSet}
use Rattle.log_opening.specs.Devices.{Device, as_device, device_at, devices_now, AreOpened, IsOpened}
use Rattle.log_opening.specs.Found.{AreAllFound, AreFound, ArePlaced, IsFoundOn, IsReadyLog, IsTouched}
use Rattle.log_opening.specs.Kept.{AreUsed}
use Rattle.log_opening.specs.Reads.{AreOpenOn}
use Rattle.log_opening.specs.Upgrades.{items_at}
use Rattle.log_opening.proofs.Numbers.{at_logs, each_zip, zip_four}
use Rattle.log_opening.proofs.Places.{now_all}
use Rattle.log_opening.proofs.Opening.{found_length, found_opened, found_touched, on_touched}
use Rattle.log_opening.proofs.ReadyOne.{opened_items}

-- ---- each of them

on_at : (before after : List Device) (found : List (List LogItem)) (d : ℕ) → AreFound before after found → d < length found → IsFoundOn (device_at before d) (device_at after d) (items_at found d)
on_at before after [] d are lt = absurd (omega (arith, lt))
on_at [] after (i ∷ is) d are lt = absurd are
on_at (b ∷ bs) [] (i ∷ is) d are lt = absurd are
on_at (b ∷ bs) (a ∷ more) (i ∷ is) zero are lt = are.0
on_at (b ∷ bs) (a ∷ more) (i ∷ is) (suc d) are lt = on_at bs more is d are.1 (omega (arith, lt))

module _ (before : List Device) (logs : List LogState) (found : List (List LogItem)) (all : AreAllFound before logs found) where
  pub found_many : length found ≡ 4
  found_many = AllZip-long IsReadyLog logs found all.ready ∙ all.many

  pub all_whole : length before ≡ 4
  all_whole = sym (found_length before (map as_device logs) found all.are) ∙ length-map logs as_device ∙ all.many

  pub found_at : (d : ℕ) → d < 4 → IsFoundOn (device_at before d) (as_device (log_at logs d)) (items_at found d)
  found_at d lt =
      subst (λ (x : Device). IsFoundOn (device_at before d) x (items_at found d)) (at_logs logs d) (on_at before (map as_device logs) found d all.are (omega (arith, lt, found_many)))

  pub ready_at : (d : ℕ) → d < 4 → IsReadyLog (log_at logs d) (items_at found d)
  ready_at d lt = each_zip IsReadyLog logs found _ [] d all.ready (omega (arith, lt, all.many))

  -- all are opened, and nothing else
  pub all_opened : AreOpened 4 before (map as_device logs)
  all_opened = subst (λ (n : ℕ). AreOpened n before (map as_device logs)) found_many (found_opened before (map as_device logs) found all.are)

  pub all_touched : AllZip IsTouched before (map as_device logs)
  all_touched = found_touched before (map as_device logs) found all.are

  pub open_on : AreOpenOn before logs
  open_on = record {
    whole = all_whole;
    many = all.many;
    each = λ d lt. record { items = items_at found d; found = found_at d lt; ready = ready_at d lt };
  }

-- where no device is left
pub now_found : {D : Type 0} (told : D → Option DeviceHistory) (faults : D → ℕ) (before : List Device) (logs : List LogState) (rest : List D) (found : List (List LogItem)) → length logs ≡ 4 → length rest ≡ 0
    → AreFound before (devices_now told faults logs rest) found → AllZip IsReadyLog logs found → AreAllFound before logs found
now_found told faults before logs rest found many none are ready = record {
  many = many;
  are = subst (λ (ds : List Device). AreFound before ds found) (now_all told faults logs rest none) are;
  ready = ready;
}

-- the items of each stand so in a log
pub all_placed : (before : List Device) (after : List Device) (found : List (List LogItem)) → AreFound before after found → AllByRecursion ArePlaced found
all_placed before after [] are = tt
all_placed [] after (i ∷ is) are = absurd are
all_placed (b ∷ bs) [] (i ∷ is) are = absurd are
all_placed (b ∷ bs) (a ∷ more) (i ∷ is) are = (are.0.placed, all_placed bs more is are.1)

-- ---- which are in use

fronts_held : PlacedIsLogAt → (told new : Option DeviceHistory) (end : ℕ) (items : List LogItem) (front : List Record) → Opened told new end items → IsFront (bytes_of items) front
    → IfSome told (λ h. HoldsFront (content h) front)
fronts_held placed None new end items front opened is = tt
fronts_held placed (Some h) new end items front opened is = (bytes_of items, opened_items placed h new end items opened, is)

-- the items of a log have these records in front
abbrev pub HasFront : List LogItem → List Record → Type 0
HasFront items front = IsFront (bytes_of items) front

pub used_by : PlacedIsLogAt → (many : ℕ) (before : List Device) (logs : List LogState) (found : List (List LogItem)) (fronts : List (List Record)) (head count generation : ℕ) → AreAllFound before logs found
    → AllZip HasFront found fronts → IsUsed (lists_at fronts) many head count generation → AreUsed many before head count generation
used_by placed many before logs found fronts head count generation all each used = record {
  fronts = lists_at fronts;
  each = λ d lt.
      let on = found_at before logs found all d lt in
      let here : d < length found = omega (arith, lt, found_many before logs found all) in
      fronts_held placed (device_at before d).told (log_at logs d).told on.opened.0 (items_at found d) (lists_at fronts d) on.opened.1 (each_zip HasFront found fronts [] [] d each here);
  used = used;
}

genesis_few : (front : List Record) (count : ℕ) (first : List State) (rest : List Record) → front ≡ Genesis count first ∷ rest → AllByRecursion IsRecord front → count ≤ 4
genesis_few front count first rest begins each =
    let all : AllByRecursion IsRecord (Genesis count first ∷ rest) = subst (λ (l : List Record). AllByRecursion IsRecord l) begins each in all.0.few_logs

set_fits : (found : List (List LogItem)) (fronts : List (List Record)) (head count generation : ℕ) → length found ≡ 4 → AllZip HasFront found fronts → IsSet (lists_at fronts) head count generation
    → head + count ≤ 4
set_fits found fronts head count generation four each set =
    let low : head < 3 = set.is_head.low in
    let here : head < length found = omega (arith, low, four) in
    let front : HasFront (get_or found head []) (lists_at fronts head) = each_zip HasFront found fronts [] [] head each here in
    let few : count ≤ 4 = genesis_few (lists_at fronts head) count set.first set.is_head.rest set.is_head.begins front.each in
    elim (set.is_head.side) [ inl first ↦ omega (arith, first, few) | inr same ↦ omega (arith, same, low) ]

pub used_fits : (many : ℕ) (found : List (List LogItem)) (fronts : List (List Record)) (head count generation : ℕ) → many ≤ 4 → length found ≡ 4 → AllZip HasFront found fronts
    → IsUsed (lists_at fronts) many head count generation → head + count ≤ 4
used_fits many found fronts head count generation few four each (inl set) = set_fits found fronts head count generation four each set
used_fits many found fronts head count generation few four each (inr none) = omega (arith, few, none.1, none.2)

-- where there is a set, an item was found on its head
pub set_has_items : (many : ℕ) (found : List (List LogItem)) (fronts : List (List Record)) (head count generation : ℕ) → length found ≡ 4 → AllZip HasFront found fronts
    → IsUsed (lists_at fronts) many head count generation → items_at found head ≡ [] → (head ≡ 0) × (generation ≡ 0)
set_has_items many found fronts head count generation four each (inl set) none =
    let low : head < 3 = set.is_head.low in
    let here : head < length found = omega (arith, low, four) in
    let front : HasFront (items_at found head) (lists_at fronts head) = each_zip HasFront found fronts [] [] head each here in
    let nothing : HasFront [] (lists_at fronts head) = subst (λ (l : List LogItem). HasFront l (lists_at fronts head)) none front in
    let begun : HasFront [] (Genesis count set.first ∷ set.is_head.rest) = subst (λ (l : List Record). HasFront [] l) set.is_head.begins nothing in
    let bad = begun.parts in
    absurd (cc)
set_has_items many found fronts head count generation four each (inr none) empty = (none.1, none.3)

-- ---- four open logs

pub open_touched : (before : List Device) (logs : List LogState) → AreOpenOn before logs → AllZip IsTouched before (map as_device logs)
open_touched before logs is =
    zip_four IsTouched before logs is.whole is.many (λ d lt. let at = is.each d lt in on_touched (device_at before d) (as_device (log_at logs d)) at.items at.found)

pub open_opened : (before : List Device) (logs : List LogState) → AreOpenOn before logs → AreOpened 4 before (map as_device logs)
open_opened before logs is =
    let all : AllZip IsOpened before (map as_device logs) =
    zip_four IsOpened before logs is.whole is.many (λ d lt. let at = is.each d lt in (at.found.opened.0, at.items, at.found.opened.1)) in
    let size : length (map as_device logs) ≡ 4 = length-map logs as_device ∙ is.many in
    record {
      opened = subst (λ (ds : List Device). AllZip IsOpened ds (take 4 (map as_device logs))) (sym (take_all 4 before (omega (arith, is.whole))))
          (subst (λ (ds : List Device). AllZip IsOpened before ds) (sym (take_all 4 (map as_device logs) (omega (arith, size)))) all);
      others = drop_all 4 (map as_device logs) (omega (arith, size)) ∙ sym (drop_all 4 before (omega (arith, is.whole)));
    }

-- none of them is shut
pub open_ready : (before : List Device) (logs : List LogState) → AreOpenOn before logs → AllByRecursion (λ (l : LogState). l.shut ≡ false) logs
open_ready before logs is = by logs (λ n lt. (is.each n (omega (arith, lt, is.many))).ready.ready)
  where
    by : (ls : List LogState) → ((n : ℕ) → n < length ls → (log_at ls n).shut ≡ false) → AllByRecursion (λ (l : LogState). l.shut ≡ false) ls
    by [] each = tt
    by (l ∷ ls) each = (each 0 (omega arith), by ls (λ n lt. each (suc n) (omega (arith, lt))))
