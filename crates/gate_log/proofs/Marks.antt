-- The mark of a log while operations are made on it, and what a crash leaves of it.
use Rattle.std.proofs.Common.{◌≡◌, ℕ, ◌<◌, Bool, true, false, List, [], ◌∷◌, ◌++◌, length, Option, Some, refl, sym, ap, subst, ◌∙◌, inl, inr, arith, append_assoc, append-nil}
use Rattle.std.specs.Prelude.{◌==◌, nat_le, if◌then◌else◌, slice_index}
use Rattle.std.proofs.lemmas.Bool.{cases_lt, eqb-true, leb-false, lt-leb, true≢false}
use Rattle.snap_outside.specs.declared.devices.DevOp.{DevOp}
use Rattle.snap_outside.specs.Disk.{DeviceHistory, Disk, disk, content, settled, with_ops, IsImage, EachMoment}
use Rattle.snap_outside.specs.Moments.{moments_weaker}
use Rattle.snap_outside.proofs.Images.{image_is}
use Rattle.gate_log.specs.declared.limits.TheConstants.{NEW_LOG_SIZE}
use Rattle.gate_log.specs.declared.logs.LogItem.{LogItem}
use Rattle.gate_log.specs.Appends.{append_ops, block_ops, clear_ops, close_ops, group_block, upgrade_ops}
use Rattle.gate_log.specs.Bytes.{header, blocks, format_in, marked_format, IsLog, IsLogAt, IsOld}
use Rattle.gate_log.specs.Device.{DeviceLog, MayAppend}
use Rattle.gate_log.specs.Opened.{bytes_of, new_log, opening_ops, beginning_ops, Opened}
use Rattle.gate_log.proofs.AppendDisks.{append_moments, gate_moments}
use Rattle.gate_log.proofs.Beginnings.{upgrade_where, begun_keeps}
use Rattle.gate_log.proofs.ClearLogs.{begins_open}
use Rattle.gate_log.proofs.OneReading.{one_list}
use Rattle.gate_log.proofs.OpenDisks.{disk_written_over}
use Rattle.gate_log.proofs.Openings.{gives, long_ops, long_same, short_ops}
use Rattle.gate_log.proofs.Upgrades.{upgrade_gives}

-- the bytes have the mark of these
abbrev HasMarkOf : List ℕ → List ℕ → Type 0
HasMarkOf bytes image = marked_format image ≡ marked_format bytes

-- ---- an append

block_marks : (bytes : List ℕ) (end : ℕ) (items added : List (List ℕ)) → IsLogAt bytes end items → EachMoment (settled bytes) (block_ops end (group_block added)) (HasMarkOf bytes)
block_marks bytes end items added log =
    let p = log.parts in
    let front : List ℕ = header log.mark ++ blocks p.0 in
    subst (λ (b : List ℕ). EachMoment (settled b) (block_ops end (group_block added)) (HasMarkOf b)) (sym p.5)
    (subst (λ (e : ℕ). EachMoment (settled (front ++ p.1 ∷ p.2)) (block_ops e (group_block added)) (HasMarkOf (front ++ p.1 ∷ p.2))) (sym p.6)
    (append_moments front p.1 (length front) refl (group_block added) p.2 (HasMarkOf (front ++ p.1 ∷ p.2)) p.4 (λ x tail not. refl) (λ tail. refl)))

-- of a log of which nothing is loose
quiet_mark : (h : DeviceHistory) → disk h ≡ settled (content h) → (image : List ℕ) → IsImage (disk h) image → HasMarkOf (content h) image
quiet_mark h quiet image left = ap marked_format (image_is (content h) image (subst (λ (d : Disk). IsImage d image) quiet left))

pub append_keeps_mark : (h : DeviceHistory) (end : ℕ) (items added : List (List ℕ)) → MayAppend end added → DeviceLog h end items
    → EachMoment (disk h) (append_ops end added) (λ image. marked_format image ≡ marked_format (content h))
append_keeps_mark h end items [] may log = quiet_mark h log.quiet
append_keeps_mark h end items (item ∷ more) may log =
    subst (λ (d : Disk). EachMoment d (block_ops end (group_block (item ∷ more))) (HasMarkOf (content h))) (sym log.quiet) (block_marks (content h) end items (item ∷ more) log.log)

-- ---- a clearing

close_marks : (bytes : List ℕ) (end : ℕ) (items : List (List ℕ)) → IsLogAt bytes end items → 8 < end → EachMoment (settled bytes) close_ops (HasMarkOf bytes)
close_marks bytes end items log far =
    let b = begins_open bytes end items log far in
    subst (λ (l : List ℕ). EachMoment (settled l) close_ops (HasMarkOf l)) (sym b.is)
    (gate_moments (header b.mark) 1 8 refl 0 b.tail (HasMarkOf (header b.mark ++ 1 ∷ b.tail)) (λ x. refl))

pub clear_keeps_mark : (h : DeviceHistory) (end : ℕ) (items : List (List ℕ)) → DeviceLog h end items
    → EachMoment (disk h) (clear_ops end) (λ image. marked_format image ≡ marked_format (content h))
clear_keeps_mark h end items log = by (nat_le end 8) refl
  where
    by : (b : Bool) → nat_le end 8 ≡ b → EachMoment (disk h) (if b then [] else close_ops) (HasMarkOf (content h))
    by true e = quiet_mark h log.quiet
    by false e = subst (λ (d : Disk). EachMoment d close_ops (HasMarkOf (content h))) (sym log.quiet) (close_marks (content h) end items log.log (omega (arith, leb-false end 8 e)))

-- ---- a beginning

-- the format that the mark tells, where the byte is that of the first one
abbrev first_or_second : Bool → ℕ
first_or_second b = if b then 1 else 2

two_where_not_one : (b : Bool) → (first_or_second b == 1) ≡ false → first_or_second b ≡ 2
two_where_not_one true e = absurd (true≢false e)
two_where_not_one false e = refl

-- bytes that are long enough, of format 2
long_second : (bytes : List ℕ) → NEW_LOG_SIZE < length bytes → (format_in bytes == 1) ≡ false → marked_format bytes ≡ 2
long_second bytes long e =
    let is : format_in bytes ≡ marked_format bytes = ap (λ (b : Bool). if b then 2 else marked_format bytes) (lt-leb (length bytes) NEW_LOG_SIZE long) in
    two_where_not_one (slice_index bytes 7 == 49) (subst (λ (n : ℕ). (n == 1) ≡ false) is e)

opened_second : (h : DeviceHistory) → (format_in (content h) == 1) ≡ false → marked_format (content (with_ops h (opening_ops (content h)))) ≡ 2
opened_second h e = elim (cases_lt NEW_LOG_SIZE (length (content h))) [
  | inl long ↦
      subst (λ (ops : List DevOp). marked_format (content (with_ops h ops)) ≡ 2) (long_ops (content h) long) (ap marked_format (long_same h) ∙ long_second (content h) long e)
  | inr short ↦
      subst (λ (ops : List DevOp). marked_format (content (with_ops h ops)) ≡ 2) (short_ops (content h) short) (ap (λ (d : Disk). marked_format d.now) (disk_written_over h new_log short))
]

second_with : (h : DeviceHistory) (opening : List DevOp) (end : ℕ) (items : List (List ℕ)) (old : Bool) → DeviceLog (with_ops h opening) end items → (old ≡ false → marked_format (content (with_ops h opening)) ≡ 2)
    → marked_format (content (with_ops h (opening ++ upgrade_where old))) ≡ 2
second_with h opening end items true log two =
    subst (λ (ops : List DevOp). marked_format (content (record { first = h.first; ops = ops })) ≡ 2) (append_assoc h.ops opening upgrade_ops) (upgrade_gives (with_ops h opening) end items log).1
second_with h opening end items false log two = subst (λ (ops : List DevOp). marked_format (content (with_ops h ops)) ≡ 2) (sym (append-nil opening)) (two refl)

pub begun_second : (h : DeviceHistory) (new : Option DeviceHistory) (end : ℕ) (found : List LogItem) → Opened (Some h) new end found
    → marked_format (content (with_ops h (beginning_ops (content h)))) ≡ 2
begun_second h new end found opened = second_with h (opening_ops (content h)) end (bytes_of found) (format_in (content h) == 1) (gives h new end found opened) (opened_second h)

-- ---- no log of format 1 with an item

bare : (image : List ℕ) → IsLog image [] → ¬ IsOld image
bare image log old = old.2 (one_list image old.0 [] old.1.0 log)

same_recent : (bytes image : List ℕ) → ¬ IsOld bytes → IsImage (settled bytes) image → ¬ IsOld image
same_recent bytes image recent left = subst (λ (l : List ℕ). ¬ IsOld l) (sym (image_is bytes image left)) recent

-- one that has an item and is not of format 1 is only synced
full_recent : (h : DeviceHistory) (old : Bool) → disk h ≡ settled (content h) → NEW_LOG_SIZE < length (content h) → ¬ IsOld (content h) → old ≡ false
    → EachMoment (disk h) (opening_ops (content h) ++ upgrade_where old) (λ image. ¬ IsOld image)
full_recent h true quiet long recent not = absurd (true≢false not)
full_recent h false quiet long recent not =
    subst (λ (ops : List DevOp). EachMoment (disk h) (ops ++ []) (λ image. ¬ IsOld image)) (long_ops (content h) long) (
      (λ image left. same_recent (content h) image recent (subst (λ (d : Disk). IsImage d image) quiet left)),
      (λ image left. same_recent (content h) image recent left),
    )

not_first : (bytes : List ℕ) (item : List ℕ) (items : List (List ℕ)) → IsLog bytes (item ∷ items) → ¬ IsOld bytes → (b : Bool) → (format_in bytes == 1) ≡ b → b ≡ false
not_first bytes item items log recent false e = refl
not_first bytes item items log recent true e = absurd (recent (item ∷ items, (log, sym (eqb-true (format_in bytes) 1 e)), (λ none. cc)))

pub begun_recent : (h : DeviceHistory) (items : List (List ℕ)) → disk h ≡ settled (content h) → IsLog (content h) items → ¬ IsOld (content h)
    → EachMoment (disk h) (beginning_ops (content h)) (λ image. ¬ IsOld image)
begun_recent h [] quiet log recent = moments_weaker (λ image. IsLog image []) (λ image. ¬ IsOld image) bare (disk h) (beginning_ops (content h)) (begun_keeps h [] quiet log)
begun_recent h (item ∷ items) quiet log recent =
    full_recent h (format_in (content h) == 1) quiet (long log) recent (not_first (content h) item items log recent (format_in (content h) == 1) refl)
  where
    long : IsLog (content h) (item ∷ items) → NEW_LOG_SIZE < length (content h)
    long (inl short) = absurd (let e : item ∷ items ≡ [] = short.1 in cc)
    long (inr l) = l.0
