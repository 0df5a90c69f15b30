-- What opening's operations do to a log on a device.
use Rattle.std.proofs.Common.{◌≡◌, ◌≢◌, ℕ, ◌≤◌, ◌<◌, inl, inr, Bool, List, [], ◌∷◌, length, Option, Some, refl, sym, ap, subst, ◌∙◌, arith}
use Rattle.std.specs.Prelude.{if◌then◌else◌}
use Rattle.std.proofs.lemmas.Bool.{cases_lt, le-leb, lt-leb}
use Rattle.snap_outside.specs.declared.devices.DevOp.{DevOp}
use Rattle.snap_outside.specs.declared.devices.DevOp.TheVariants.{Write, Sync}
use Rattle.snap_outside.specs.Disk.{DeviceHistory, Disk, disk, content, settled, with_ops, IsImage, EachMoment, AddsAll, AddsUpToFault}
use Rattle.snap_outside.specs.Moments.{adds_nothing, disk_join}
use Rattle.snap_outside.proofs.Images.{image_is}
use Rattle.gate_log.specs.declared.limits.TheConstants.{NEW_LOG_SIZE}
use Rattle.gate_log.specs.declared.logs.LogItem.{LogItem}
use Rattle.gate_log.specs.declared.opens.OpenNo.{OpenNo}
use Rattle.gate_log.specs.declared.opens.OpenNo.TheVariants.{NotALog, Damage, Device, Memory}
use Rattle.gate_log.specs.Bytes.{marked_format, format_in, IsLog}
use Rattle.gate_log.specs.Device.{DeviceLog}
use Rattle.gate_log.specs.Opened.{bytes_of, new_log, opening_ops, Opened, Refused}
use Rattle.gate_log.proofs.OpenCrashes.{make_moments}
use Rattle.gate_log.proofs.OpenDisks.{settled_log, disk_written_over, new_is_log, synced_log}

abbrev make : List DevOp
make = Write 0 new_log ∷ Sync ∷ []

abbrev chosen : Bool → List DevOp
chosen short = if short then Write 0 new_log ∷ Sync ∷ [] else Sync ∷ []

pub short_ops : (bytes : List ℕ) → length bytes ≤ NEW_LOG_SIZE → make ≡ opening_ops bytes
short_ops bytes short = sym (ap chosen (le-leb (length bytes) NEW_LOG_SIZE short))

pub long_ops : (bytes : List ℕ) → NEW_LOG_SIZE < length bytes → Sync ∷ [] ≡ opening_ops bytes
long_ops bytes long = sym (ap chosen (lt-leb (length bytes) NEW_LOG_SIZE long))

pub adds : (h : DeviceHistory) (new : Option DeviceHistory) (end : ℕ) (found : List LogItem) → Opened (Some h) new end found → AddsAll (Some h) new (opening_ops (content h))
adds h new end found opened = elim (cases_lt NEW_LOG_SIZE (length (content h))) [
  | inl long ↦ subst (λ (ops : List DevOp). AddsAll (Some h) new ops) (long_ops (content h) long) (opened.read long).1
  | inr short ↦ subst (λ (ops : List DevOp). AddsAll (Some h) new ops) (short_ops (content h) short) (opened.made short).2
]

some_ops : (bytes : List ℕ) → opening_ops bytes ≢ []
some_ops bytes = elim (cases_lt NEW_LOG_SIZE (length bytes)) [
  | inl long ↦ subst (λ (ops : List DevOp). ops ≢ []) (long_ops bytes long) (λ none. cc)
  | inr short ↦ subst (λ (ops : List DevOp). ops ≢ []) (short_ops bytes short) (λ none. cc)
]

untouched : (h : DeviceHistory) (new : Option DeviceHistory) → new ≡ Some h → AddsUpToFault (Some h) new (opening_ops (content h))
untouched h new same = ([], record { left = opening_ops (content h); some = some_ops (content h); whole = refl }, adds_nothing (Some h) new same)

pub refused : (h : DeviceHistory) (new : Option DeviceHistory) (why : OpenNo) → Refused (Some h) new why → AddsUpToFault (Some h) new (opening_ops (content h))
refused h new (NotALog offset) told = untouched h new told.0
refused h new (Damage offset) told = untouched h new told.0
refused h new Device told = elim told [
  | inl same ↦ untouched h new same
  | inr made ↦ (Write 0 new_log ∷ [], record { left = Sync ∷ []; some = λ none. cc; whole = sym (short_ops (content h) made.0) }, made.1)
]
refused h new Memory told = untouched h new told

pub made_log : (h : DeviceHistory) → length (content h) ≤ NEW_LOG_SIZE → DeviceLog (with_ops h make) 8 []
made_log h short = settled_log (with_ops h make) new_log 8 [] (disk_written_over h new_log short) new_is_log

pub gives : (h : DeviceHistory) (new : Option DeviceHistory) (end : ℕ) (found : List LogItem) → Opened (Some h) new end found
    → DeviceLog (with_ops h (opening_ops (content h))) end (bytes_of found)
gives h new end found opened = elim (cases_lt NEW_LOG_SIZE (length (content h))) [
  | inl long ↦
      subst (λ (ops : List DevOp). DeviceLog (with_ops h ops) end (bytes_of found)) (long_ops (content h) long) (synced_log h end found (opened.read long).0)
  | inr short ↦
      let made = opened.made short in
      subst (λ (ops : List DevOp). DeviceLog (with_ops h ops) end (bytes_of found)) (short_ops (content h) short)
      (subst (λ (e : ℕ). DeviceLog (with_ops h make) e (bytes_of found)) (sym made.0)
      (subst (λ (l : List LogItem). DeviceLog (with_ops h make) 8 (bytes_of l)) (sym made.1) (made_log h short)))
]

-- no item stands in a device that is no longer than a new log
short_items : (bytes : List ℕ) (items : List (List ℕ)) → length bytes ≤ NEW_LOG_SIZE → IsLog bytes items → [] ≡ items
short_items bytes items short (inl log) = sym log.1
short_items bytes items short (inr log) = absurd (omega (arith, short, log.0))

settled_keeps : (bytes : List ℕ) (items : List (List ℕ)) → IsLog bytes items → (image : List ℕ) → IsImage (settled bytes) image → IsLog image items
settled_keeps bytes items log image left = subst (λ (l : List ℕ). IsLog l items) (sym (image_is bytes image left)) log

pub keeps : (h : DeviceHistory) (items : List (List ℕ)) → disk h ≡ settled (content h) → IsLog (content h) items
    → EachMoment (disk h) (opening_ops (content h)) (λ image. IsLog image items)
keeps h items quiet log = elim (cases_lt NEW_LOG_SIZE (length (content h))) [
  | inl long ↦
      subst (λ (ops : List DevOp). EachMoment (disk h) ops (λ image. IsLog image items)) (long_ops (content h) long) (
        (λ image left. settled_keeps (content h) items log image (subst (λ (d : Disk). IsImage d image) quiet left)),
        settled_keeps (content h) items log,
      )
  | inr short ↦
      subst (λ (ops : List DevOp). EachMoment (disk h) ops (λ image. IsLog image items)) (short_ops (content h) short)
      (subst (λ (us : List (List ℕ)). EachMoment (disk h) make (λ image. IsLog image us)) (short_items (content h) items short log) (make_moments (disk h) short))
]

-- ---- the format

pub long_same : (h : DeviceHistory) → content (with_ops h (Sync ∷ [])) ≡ content h
long_same h = ap (λ (d : Disk). d.now) (disk_join h.ops (Sync ∷ []) (settled h.first))

pub keeps_format : (h : DeviceHistory) (new : Option DeviceHistory) (end : ℕ) (found : List LogItem) → Opened (Some h) new end found
    → format_in (content (with_ops h (opening_ops (content h)))) ≡ format_in (content h)
keeps_format h new end found opened = elim (cases_lt NEW_LOG_SIZE (length (content h))) [
  | inl long ↦ subst (λ (ops : List DevOp). format_in (content (with_ops h ops)) ≡ format_in (content h)) (long_ops (content h) long) (ap format_in (long_same h))
  | inr short ↦
      let made : format_in (content (with_ops h make)) ≡ 2 = ap (λ (d : Disk). format_in d.now) (disk_written_over h new_log short) in
      let two : format_in (content h) ≡ 2 = ap (λ (b : Bool). if b then 2 else marked_format (content h)) (le-leb (length (content h)) NEW_LOG_SIZE short) in
      subst (λ (ops : List DevOp). format_in (content (with_ops h ops)) ≡ format_in (content h)) (short_ops (content h) short) (made ∙ sym two)
]
