-- One open log that is made ready for appends, on its device.
use Rattle.std.proofs.Common.{◌≡◌, ◌≢◌, ℕ, inl, inr, List, [], ◌∷◌, length, Option, Some, None, refl, sym, ◌∙◌, ap, subst, arith}
use Rattle.std.specs.Prelude.{IfSome, ◌⊎◌, ◌==◌, if◌then◌else◌}
use Rattle.std.proofs.lemmas.Bool.{cases_lt}
use Rattle.snap_outside.specs.Causes.{Rose}
use Rattle.snap_outside.specs.declared.devices.DevOp.{DevOp}
use Rattle.snap_outside.specs.Disk.{DeviceHistory, content, with_ops, AddsAll}
use Rattle.snap_outside.specs.Moments.{adds_nothing}
use Rattle.gate_log.specs.declared.limits.TheConstants.{NEW_LOG_SIZE}
use Rattle.gate_log.specs.declared.logs.LogItem.{LogItem}
use Rattle.gate_log.specs.Appends.{upgrade_ops}
use Rattle.gate_log.specs.Bytes.{IsLog, format_in}
use Rattle.gate_log.specs.Device.{DeviceLog, HasFormat}
use Rattle.gate_log.specs.LogLaws.{OneList, OpeningAdds, OpeningKeepsFormat, PlacedIsLogAt}
use Rattle.gate_log.specs.Opened.{Opened, bytes_of, opening_ops}
use Rattle.gate_log.specs.State.{LogState}
use Rattle.record_log.specs.Growth.{upgrading_of}
use Rattle.record_log.specs.RecordLogLaws.{UpgradeKeepsRecords}
use Rattle.record_log.specs.Records.{KeepsRecords}
use Rattle.log_opening.specs.Devices.{Device, as_device, preparing_of, DeviceBegun, HoldsNoOld, HoldsOld, IsDevicePrepared, IsUpgradeCutOff}
use Rattle.log_opening.specs.Found.{IsBegunOn, IsFoundOn, IsHandled, IsKeptSafe, IsReadyLog}
use Rattle.log_opening.specs.Upgrades.{IsBeginningCutOff, IsMadeReady, IsNotMadeReady, IsUpgraded}

-- what the logs promise
pub record ReadyLaws : Type 0 where
  pub placed : PlacedIsLogAt
  pub lists : OneList
  pub adds : OpeningAdds
  pub format : OpeningKeepsFormat
  pub keeps : UpgradeKeepsRecords

-- as the laws of these names promise it, which each call that makes logs ready calls
pub ready_laws : PlacedIsLogAt → OneList → OpeningAdds → OpeningKeepsFormat → UpgradeKeepsRecords → ReadyLaws
ready_laws placed lists adds format keeps = record { placed = placed; lists = lists; adds = adds; format = format; keeps = keeps }

-- ---- formats

chosen : ℕ → List DevOp
chosen n = if n == 1 then upgrade_ops else []

-- the format of what the device held is that of the log
pub format_was : OpeningAdds → OpeningKeepsFormat → (told new : Option DeviceHistory) (end : ℕ) (items : List LogItem) (format : ℕ) → Opened told new end items → HasFormat new format
    → IfSome told (λ h. format ≡ format_in (content h))
format_was adds keeps None new end items format opened has = tt
format_was adds keeps (Some h) new end items format opened has =
    let behind : new ≡ Some (with_ops h (opening_ops (content h))) = adds h new end items opened in
    (subst (λ (t : Option DeviceHistory). HasFormat t format) behind has).1 ∙ keeps h new end items opened

-- a log of format 2 is not upgraded
second_stays : (told : Option DeviceHistory) (format : ℕ) → IfSome told (λ h. format ≡ format_in (content h)) → format ≡ 2 → upgrading_of told ≡ []
unfolding chosen
second_stays None format was two = refl
second_stays (Some h) format was two = let is : format_in (content h) ≡ 2 = sym was ∙ two in ap chosen is

-- one of format 1 is
first_upgrades : (told opened new : Option DeviceHistory) (end : ℕ) (items : List LogItem) (format : ℕ) → Opened told opened end items → IfSome told (λ h. format ≡ format_in (content h)) → format ≡ 1
    → AddsAll opened new upgrade_ops → AddsAll opened new (upgrading_of told)
unfolding chosen
first_upgrades None opened new end items format is was one adds =
    subst (λ (t : Option DeviceHistory). AddsAll t new []) (sym is) (subst (λ (t : Option DeviceHistory). AddsAll t new upgrade_ops) is adds)
first_upgrades (Some h) opened new end items format is was one adds =
    let here : format_in (content h) ≡ 1 = sym was ∙ one in
    subst (λ (ops : List DevOp). AddsAll opened new ops) (sym (ap chosen here)) adds

-- ---- items

pub opened_items : PlacedIsLogAt → (h : DeviceHistory) (new : Option DeviceHistory) (end : ℕ) (items : List LogItem) → Opened (Some h) new end items → IsLog (content h) (bytes_of items)
opened_items placed h new end items opened = elim (cases_lt NEW_LOG_SIZE (length (content h))) [
  | inl long ↦ inr (long, (end, placed (content h) end items (opened.read long).0))
  | inr short ↦ inl (short, ap (λ (l : List LogItem). bytes_of l) (opened.made short).1)
]

some_bytes : (items : List LogItem) → items ≢ [] → bytes_of items ≢ []
some_bytes [] some none = some refl
some_bytes (i ∷ items) some none = cc

second_no_old : ReadyLaws → (told new : Option DeviceHistory) (end : ℕ) (items : List LogItem) (format : ℕ) (faults : ℕ) → Opened told new end items → HasFormat new format → format ≡ 2
    → HoldsNoOld (record { told = told; faults = faults })
second_no_old laws None new end items format faults opened has two = tt
second_no_old laws (Some h) new end items format faults opened has two = λ old.
    let was : format ≡ format_in (content h) = format_was laws.adds laws.format (Some h) new end items format opened has in
    omega (arith, was, two, old.1.1)

pub empty_no_old : ReadyLaws → (told new : Option DeviceHistory) (end : ℕ) (items : List LogItem) (faults : ℕ) → Opened told new end items → items ≡ [] → HoldsNoOld (record { told = told; faults = faults })
empty_no_old laws None new end items faults opened none = tt
empty_no_old laws (Some h) new end items faults opened none = λ old.
    let here : IsLog (content h) [] = subst (λ (l : List LogItem). IsLog (content h) (bytes_of l)) none (opened_items laws.placed h new end items opened) in
    old.2 (laws.lists (content h) old.0 [] old.1.0 here)

old_there : ReadyLaws → (told new : Option DeviceHistory) (end : ℕ) (items : List LogItem) (format : ℕ) (faults : ℕ) → Opened told new end items → HasFormat new format → format ≡ 1 → items ≢ []
    → HoldsOld (record { told = told; faults = faults })
old_there laws None new end items format faults opened has one some = tt
old_there laws (Some h) new end items format faults opened has one some =
    let was : format ≡ format_in (content h) = format_was laws.adds laws.format (Some h) new end items format opened has in
    (bytes_of items, (opened_items laws.placed h new end items opened, sym one ∙ was), some_bytes items some)

-- ---- what is made of a log

module _ (laws : ReadyLaws) (b : Device) (l k : LogState) (items : List LogItem) (on : IsFoundOn b (as_device l) items) (ready : IsReadyLog l items) where
  was : IfSome b.told (λ h. l.format ≡ format_in (content h))
  was = format_was laws.adds laws.format b.told l.told on.opened.0 items l.format on.opened.1 ready.formatted

  -- so what the device held was of format 1
  is_first : l.format ≡ 1 → IfSome b.told (λ h. format_in (content h) ≡ 1)
  is_first one = by b.told was
    where
      by : (told : Option DeviceHistory) → IfSome told (λ h. l.format ≡ format_in (content h)) → IfSome told (λ h. format_in (content h) ≡ 1)
      by None is = tt
      by (Some h) is = sym is ∙ one

  -- and so is what it holds now
  opened_first : l.format ≡ 1 → IfSome l.told (λ g. format_in (content g) ≡ 1)
  opened_first one = by l.told ready.formatted
    where
      by : (told : Option DeviceHistory) → HasFormat told l.format → IfSome told (λ g. format_in (content g) ≡ 1)
      by None is = tt
      by (Some g) is = sym is.1 ∙ one

  -- it was of format 2
  begun_still : l.format ≡ 2 → (end : ℕ) × DeviceBegun b.told l.told end items
  begun_still two =
      (on.opened.0, (l.told, on.opened.1, subst (λ (ops : List DevOp). AddsAll l.told l.told ops) (sym (second_stays b.told l.format was two)) (adds_nothing l.told l.told refl)))

  -- it was of format 1
  begun_now : l.format ≡ 1 → IsUpgraded l k → (end : ℕ) × DeviceBegun b.told k.told end items
  begun_now one up = (on.opened.0, (l.told, on.opened.1, first_upgrades b.told l.told k.told on.opened.0 items l.format on.opened.1 was one up.adds))

  keeps_now : l.format ≡ 1 → IsUpgraded l k → KeepsRecords b.told k.told
  keeps_now one up = laws.keeps b.told l.told k.told on.opened.0 l.end items on.opened.1 ready.holds (opened_first one) on.safe.records up.safe

  holds_now : IsUpgraded l k → IfSome k.told (λ g. DeviceLog g k.end (bytes_of items))
  holds_now up = subst (λ (n : ℕ). IfSome k.told (λ g. DeviceLog g n (bytes_of items))) (sym up.gate) (by l.told k.told up.adds up.upgraded.0 ready.holds)
    where
      by : (old new : Option DeviceHistory) → AddsAll old new upgrade_ops → IfSome old (λ h. IfSome new (λ g. (xs : List (List ℕ)) → DeviceLog h l.end xs → DeviceLog g l.end xs))
          → IfSome old (λ h. DeviceLog h l.end (bytes_of items)) → IfSome new (λ g. DeviceLog g l.end (bytes_of items))
      by None new adds up log = subst (λ (t : Option DeviceHistory). IfSome t (λ g. DeviceLog g l.end (bytes_of items))) (sym adds) tt
      by (Some h) None adds up log = tt
      by (Some h) (Some g) adds up log = up (bytes_of items) log

  ready_now : IsUpgraded l k → IsReadyLog k items
  ready_now up = record {
    holds = holds_now up;
    formatted = subst (λ (n : ℕ). HasFormat k.told n) (sym up.second) up.upgraded.1;
    known = inr up.second;
    low = omega (arith, ready.low, up.gate);
    ready = up.ready;
  }

  -- ---- by the cases

  pub begun_on : (listed : List LogItem) → IsMadeReady l k listed → k.format ≡ 2 → IsBegunOn b (as_device k) items
  begun_on listed (inl same) two =
      let stays : l.format ≡ 2 = sym (ap (λ (x : LogState). x.format) same.0) ∙ two in
      subst (λ (x : LogState). IsBegunOn b (as_device x) items) (sym same.0) (record { begun = begun_still stays; placed = on.placed; safe = on.safe })
  begun_on listed (inr up) two = record { begun = begun_now up.1 up.2; placed = on.placed; safe = record { records = keeps_now up.1 up.2; later = omega (arith, on.safe.later, up.2.later) } }

  pub still_ready : (listed : List LogItem) → IsMadeReady l k listed → IsReadyLog k items
  still_ready listed (inl same) = subst (λ (x : LogState). IsReadyLog x items) (sym same.0) ready
  still_ready listed (inr up) = ready_now up.2

  pub no_old : IsMadeReady l k items → k.format ≡ 2 → HoldsNoOld b
  no_old (inl same) two = second_no_old laws b.told l.told on.opened.0 items l.format b.faults on.opened.1 ready.formatted (sym (ap (λ (x : LogState). x.format) same.0) ∙ two)
  no_old (inr up) two = empty_no_old laws b.told l.told on.opened.0 items b.faults on.opened.1 up.0

  -- one that is still of format 1 has items
  pub is_old : IsMadeReady l k items → k.format ≡ 1 → HoldsOld b
  is_old (inl (same, inl other)) one = absurd (other (sym (ap (λ (x : LogState). x.format) same) ∙ one))
  is_old (inl (same, inr some)) one =
      old_there laws b.told l.told on.opened.0 items l.format b.faults on.opened.1 ready.formatted (sym (ap (λ (x : LogState). x.format) same) ∙ one) some
  is_old (inr up) one = absurd (omega (arith, up.2.second, one))

  untouched_prepared : (format_or : (l.format ≢ 1) ⊎ (items ≢ [])) → AddsAll l.told l.told (preparing_of b.told items)
  untouched_prepared format_or = by items format_or (second_stays b.told l.format was)
    where
      two : l.format ≢ 1 → l.format ≡ 2
      two other = elim (ready.known) [ inl one ↦ absurd (other one) | inr is ↦ is ]

      by : (xs : List LogItem) → (l.format ≢ 1) ⊎ (xs ≢ []) → (l.format ≡ 2 → upgrading_of b.told ≡ []) → AddsAll l.told l.told (preparing_of b.told xs)
      by [] (inl other) none = subst (λ (ops : List DevOp). AddsAll l.told l.told ops) (sym (none (two other))) (adds_nothing l.told l.told refl)
      by [] (inr some) none = absurd (some refl)
      by (x ∷ xs) format_or none = adds_nothing l.told l.told refl

  pub prepared : IsMadeReady l k items → IsDevicePrepared b (as_device k)
  prepared (inl same) =
      subst (λ (x : LogState). IsDevicePrepared b (as_device x)) (sym same.0) (on.opened.0, items, (l.told, on.opened.1, untouched_prepared same.1))
  prepared (inr up) =
      let here : Opened b.told l.told on.opened.0 [] = subst (λ (xs : List LogItem). Opened b.told l.told on.opened.0 xs) up.0 on.opened.1 in
      (on.opened.0, [], (l.told, here, first_upgrades b.told l.told k.told on.opened.0 [] l.format here was up.1 up.2.adds))

  pub kept_safe : (listed : List LogItem) → IsMadeReady l k listed → IsKeptSafe b (as_device k)
  kept_safe listed (inl same) = subst (λ (x : LogState). IsKeptSafe b (as_device x)) (sym same.0) on.safe
  kept_safe listed (inr up) = record { records = keeps_now up.1 up.2; later = omega (arith, on.safe.later, up.2.later) }

  pub handled : IsMadeReady l k items → IsHandled b (as_device k)
  handled made = record { prepared = inr (inl (prepared made)); safe = kept_safe items made }

  pub cut_off : IsNotMadeReady l k items → IsUpgradeCutOff b (as_device k)
  cut_off not =
      let here : Opened b.told l.told on.opened.0 [] = subst (λ (xs : List LogItem). Opened b.told l.told on.opened.0 xs) not.0 on.opened.1 in
      (on.opened.0, l.told, here, is_first not.1, not.2.adds)

  pub failed_safe : (listed : List LogItem) → IsNotMadeReady l k listed → IsKeptSafe b (as_device k)
  failed_safe listed not = record {
    records = laws.keeps b.told l.told k.told on.opened.0 l.end items on.opened.1 ready.holds (opened_first not.1) on.safe.records not.2.safe;
    later = omega (arith, on.safe.later, not.2.later);
  }

  pub handled_failed : IsNotMadeReady l k items → IsHandled b (as_device k)
  handled_failed not = record { prepared = inr (inr (cut_off not)); safe = failed_safe items not }

  pub has_risen : (listed : List LogItem) → IsNotMadeReady l k listed → Rose b.faults k.faults
  has_risen listed not = omega (arith, on.safe.later, not.2.rose)

  -- where it may have items
  pub cut_off_at : (listed : List LogItem) → IsNotMadeReady l k listed → IsBeginningCutOff b (as_device k)
  cut_off_at listed not = (on.opened.0, items, l.told, on.opened.1, is_first not.1, not.2.adds)
