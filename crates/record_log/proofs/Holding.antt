-- What holds records, and what a crash leaves of it.
use Rattle.std.proofs.Common.{◌≡◌, ℕ, ◌<◌, ◌≤◌, inl, inr, List, [], ◌∷◌, length, refl, sym, ap, subst, arith, Option, Some, None}
use Rattle.std.proofs.lemmas.Bool.{cases_lt}
use Rattle.snap_outside.specs.declared.devices.DevOp.TheVariants.{Sync}
use Rattle.snap_outside.specs.Disk.{DeviceHistory, Disk, disk, content, settled, IsImage, AddsAll}
use Rattle.gate_log.specs.declared.logs.LogItem.{LogItem}
use Rattle.gate_log.specs.declared.opens.OpenNo.{OpenNo}
use Rattle.gate_log.specs.declared.opens.OpenNo.TheVariants.{NotALog, Damage, Device, Memory}
use Rattle.gate_log.specs.Bytes.{IsLog, IsLogAt, IsOld, DiffersAt, IsDamagedAt}
use Rattle.gate_log.specs.Device.{DeviceLog}
use Rattle.gate_log.specs.Opened.{bytes_of, Opened, Refused, MadeSafely}
use Rattle.gate_log.specs.declared.limits.TheConstants.{NEW_LOG_SIZE}
use Rattle.gate_log.specs.LogLaws.{OneList, LogAtIsLog, PlacedIsLogAt, DamageIsNoLog, DifferenceIsNoLog}
use Rattle.snap_outside.specs.Moments.{adds_nothing, moments_weaker}
use Rattle.txn_records.specs.RecordLaws.{OneRecord}
use Rattle.txn_records.specs.declared.records.Record.{Record}
use Rattle.record_log.specs.Records.{spelled, HoldsRecords, RecordLog, AreItemsOf, IsFirstBadIn, IsKeptImage, KeepsRecords}
use Rattle.record_log.proofs.Spelling.{one_spelling, items_spelled, items_each, none_bad}

pub one_list_held : (lists : OneList) (records : OneRecord) (bytes : List ℕ) (rs xs : List Record) → HoldsRecords bytes rs → HoldsRecords bytes xs → rs ≡ xs
one_list_held lists records bytes rs xs one other = one_spelling records rs xs one.each other.each (lists bytes (spelled rs) (spelled xs) one.log other.log)

pub log_holds : (law : LogAtIsLog) (h : DeviceHistory) (end : ℕ) (rs : List Record) → RecordLog h end rs → HoldsRecords (content h) rs
log_holds law h end rs log = record { log = law (content h) end (spelled rs) log.log.log; each = log.each }

-- ---- what they are not

log_of_long : (bytes : List ℕ) (items : List (List ℕ)) → NEW_LOG_SIZE < length bytes → IsLog bytes items → (end : ℕ) × IsLogAt bytes end items
log_of_long bytes items long (inl short) = absurd (omega (arith, long, short.0))
log_of_long bytes items long (inr log) = log.1

pub never_foreign : (law : DifferenceIsNoLog) (bytes : List ℕ) (rs : List Record) (offset : ℕ) → NEW_LOG_SIZE < length bytes → HoldsRecords bytes rs → ¬ DiffersAt bytes offset
never_foreign law bytes rs offset long held = λ differs. let log = log_of_long bytes (spelled rs) long held.log in law bytes offset log.0 (spelled rs) differs log.1

pub never_damaged : (law : DamageIsNoLog) (bytes : List ℕ) (rs : List Record) (offset : ℕ) → NEW_LOG_SIZE < length bytes → HoldsRecords bytes rs → ¬ IsDamagedAt bytes offset
never_damaged law bytes rs offset long held = λ damaged. let log = log_of_long bytes (spelled rs) long held.log in law bytes offset log.0 (spelled rs) damaged log.1

-- ---- opened

module _ (placed : PlacedIsLogAt) where
  pub opened_log : (h : DeviceHistory) (new : Option DeviceHistory) (end : ℕ) (items : List LogItem) → Opened (Some h) new end items → IsLog (content h) (bytes_of items)
  opened_log h new end items opened = elim (cases_lt NEW_LOG_SIZE (length (content h))) [
    | inl long ↦ inr (long, (end, placed (content h) end items (opened.read long).0))
    | inr short ↦ inl (short, ap (λ (l : List LogItem). bytes_of l) (opened.made short).1)
  ]

  pub held_before : (h : DeviceHistory) (new : Option DeviceHistory) (end : ℕ) (items : List LogItem) (rs : List Record)
      → Opened (Some h) new end items → AreItemsOf items rs → HoldsRecords (content h) rs
  held_before h new end items rs opened are = record {
    log = subst (λ (l : List (List ℕ)). IsLog (content h) l) (items_spelled items rs are) (opened_log h new end items opened);
    each = items_each items rs are;
  }

  pub never_bad_in : (lists : OneList) (h : DeviceHistory) (new : Option DeviceHistory) (end offset : ℕ) (items : List LogItem) (rs : List Record)
      → Opened (Some h) new end items → HoldsRecords (content h) rs → ¬ IsFirstBadIn items offset
  never_bad_in lists h new end offset items rs opened held =
      λ first. none_bad items rs offset held.each (lists (content h) (bytes_of items) (spelled rs) (opened_log h new end items opened) held.log) first

pub held_after : (g : DeviceHistory) (end : ℕ) (items : List LogItem) (rs : List Record) → DeviceLog g end (bytes_of items) → AreItemsOf items rs → RecordLog g end rs
held_after g end items rs log are = record {
  log = subst (λ (l : List (List ℕ)). DeviceLog g end l) (items_spelled items rs are) log;
  each = items_each items rs are;
}

-- ---- crashes

-- what the law images_of_settled says
abbrev pub ImagesOfSettled : Type 0
ImagesOfSettled = (bytes image : List ℕ) → IsImage (settled bytes) image → image ≡ bytes

-- what holds on a settled disk holds whatever a crash leaves of it
pub settled_image : (images : ImagesOfSettled) (bytes : List ℕ) (rs : List Record) → HoldsRecords bytes rs → (image : List ℕ) → IsImage (settled bytes) image → HoldsRecords image rs
settled_image images bytes rs held = λ image left. subst (λ (l : List ℕ). HoldsRecords l rs) (sym (images bytes image left)) held

none_spelled : (rs : List Record) → spelled rs ≡ [] → [] ≡ rs
none_spelled [] none = refl
none_spelled (r ∷ rs) none = absurd (cc)

short_holds_none : (bytes : List ℕ) (rs : List Record) → length bytes ≤ NEW_LOG_SIZE → IsLog bytes (spelled rs) → [] ≡ rs
short_holds_none bytes rs short (inl log) = none_spelled rs log.1
short_holds_none bytes rs short (inr log) = absurd (omega (arith, short, log.0))

-- a log of no item is none of format 1 with an item
pub bare : OneList → (image : List ℕ) → IsLog image [] → ¬ IsOld image
bare lists image log = λ old. old.2 (lists image old.0 [] old.1.0 log)

none_kept : OneList → (bytes : List ℕ) (rs : List Record) → [] ≡ rs → (image : List ℕ) → IsLog image [] → IsKeptImage bytes rs image
none_kept lists bytes rs none image log = (subst (λ (l : List Record). HoldsRecords image l) none (record { log = log; each = tt }), (λ recent. bare lists image log))

made_keeps : OneList → (h : DeviceHistory) (new : Option DeviceHistory) → length (content h) ≤ NEW_LOG_SIZE → MadeSafely (Some h) new → KeepsRecords (Some h) new
made_keeps lists h new short made =
    let safely = made short in (
      safely.0,
      safely.1,
      (λ quiet rs held. moments_weaker (λ image. IsLog image []) (IsKeptImage (content h) rs) (none_kept lists (content h) rs (short_holds_none (content h) rs short held.log)) (disk h) safely.0 safely.2),
    )

module _ (lists : OneList) (images : ImagesOfSettled) where
  settled_kept : (bytes : List ℕ) (rs : List Record) → HoldsRecords bytes rs → (image : List ℕ) → IsImage (settled bytes) image → IsKeptImage bytes rs image
  settled_kept bytes rs held image left = subst (IsKeptImage bytes rs) (sym (images bytes image left)) (held, (λ recent. recent))

  synced_keeps : (h : DeviceHistory) (new : Option DeviceHistory) → AddsAll (Some h) new (Sync ∷ []) → KeepsRecords (Some h) new
  synced_keeps h new adds = (
    Sync ∷ [],
    adds,
    (λ quiet rs held. (
      (λ image left. settled_kept (content h) rs held image (subst (λ (d : Disk). IsImage d image) quiet left)),
      settled_kept (content h) rs held,
    )),
  )

  untouched_keeps : (h : DeviceHistory) (new : Option DeviceHistory) → new ≡ Some h → KeepsRecords (Some h) new
  untouched_keeps h new same = (
    [],
    adds_nothing (Some h) new same,
    (λ quiet rs held image left. settled_kept (content h) rs held image (subst (λ (d : Disk). IsImage d image) quiet left)),
  )

  pub opened_keeps : (old new : Option DeviceHistory) (end : ℕ) (items : List LogItem) → Opened old new end items → MadeSafely old new → KeepsRecords old new
  opened_keeps None new end items opened made = tt
  opened_keeps (Some h) new end items opened made = elim (cases_lt NEW_LOG_SIZE (length (content h))) [
    | inl long ↦ synced_keeps h new (opened.read long).1
    | inr short ↦ made_keeps lists h new short made
  ]

  pub refused_keeps : (old new : Option DeviceHistory) (why : OpenNo) → Refused old new why → MadeSafely old new → KeepsRecords old new
  refused_keeps None new why refused made = tt
  refused_keeps (Some h) new (NotALog offset) refused made = untouched_keeps h new refused.0
  refused_keeps (Some h) new (Damage offset) refused made = untouched_keeps h new refused.0
  refused_keeps (Some h) new Device refused made = elim refused [
    | inl same ↦ untouched_keeps h new same
    | inr some ↦ made_keeps lists h new some.0 made
  ]
  refused_keeps (Some h) new Memory refused made = untouched_keeps h new refused
