-- What holds of every log. A law of `src/laws.rt` says each of these, and a proof that rests on one takes it as a
-- premise.
use Rattle.std.specs.Prelude.{◌≡◌, ℕ, ◌⊎◌, List, [], ◌++◌, Option, Some}
use Rattle.snap_outside.specs.Disk.{DeviceHistory, disk, content, settled, with_ops, AddsAll, AddsUpToFault, EachMoment}
use Rattle.gate_log.specs.declared.logs.LogItem.{LogItem}
use Rattle.gate_log.specs.declared.opens.OpenNo.{OpenNo}
use Rattle.gate_log.specs.Appends.{append_ops, end_behind, upgrade_ops, clear_ops}
use Rattle.gate_log.specs.Bytes.{FIRST_GATE, IsLog, IsLogAt, IsOld, IsPlacedLogAt, DiffersAt, IsDamagedAt, marked_format, format_in}
use Rattle.gate_log.specs.Device.{DeviceLog, HasFormat, MayAppend}
use Rattle.gate_log.specs.Opened.{bytes_of, opening_ops, beginning_ops, Opened, Refused}

-- ---- bytes

-- a log has one closed gate and one list of items
abbrev pub OneReading : Type 0
OneReading = (bytes : List ℕ) (e f : ℕ) (xs ys : List (List ℕ)) → IsLogAt bytes e xs → IsLogAt bytes f ys → (e ≡ f) × (xs ≡ ys)

-- bytes stand for one list of items at most, also where they are too few to hold one
abbrev pub OneList : Type 0
OneList = (bytes : List ℕ) (xs ys : List (List ℕ)) → IsLog bytes xs → IsLog bytes ys → xs ≡ ys

-- a log whose closed gate is known stands for its items
abbrev pub LogAtIsLog : Type 0
LogAtIsLog = (bytes : List ℕ) (end : ℕ) (items : List (List ℕ)) → IsLogAt bytes end items → IsLog bytes items

-- a log in which the places of the items are known stands for those items, at its closed gate
abbrev pub PlacedIsLogAt : Type 0
PlacedIsLogAt = (bytes : List ℕ) (end : ℕ) (found : List LogItem) → IsPlacedLogAt bytes end found → IsLogAt bytes end (bytes_of found)

-- damaged bytes are no log
abbrev pub DamageIsNoLog : Type 0
DamageIsNoLog = (bytes : List ℕ) (offset end : ℕ) (items : List (List ℕ)) → IsDamagedAt bytes offset → IsLogAt bytes end items → ⊥

-- bytes are damaged at one gate alone
abbrev pub OneDamage : Type 0
OneDamage = (bytes : List ℕ) (offset other : ℕ) → IsDamagedAt bytes offset → IsDamagedAt bytes other → offset ≡ other

-- bytes that do not begin as each log does are no log
abbrev pub DifferenceIsNoLog : Type 0
DifferenceIsNoLog = (bytes : List ℕ) (offset end : ℕ) (items : List (List ℕ)) → DiffersAt bytes offset → IsLogAt bytes end items → ⊥

-- bytes that do not begin as each log does are not damaged
abbrev pub DifferenceIsNoDamage : Type 0
DifferenceIsNoDamage = (bytes : List ℕ) (offset gate : ℕ) → DiffersAt bytes offset → IsDamagedAt bytes gate → ⊥

-- one byte is the first that differs
abbrev pub OneDifference : Type 0
OneDifference = (bytes : List ℕ) (offset other : ℕ) → DiffersAt bytes offset → DiffersAt bytes other → offset ≡ other

-- ---- opening

-- a device that is opened gets opening's operations
abbrev pub OpeningAdds : Type 0
OpeningAdds =
    (h : DeviceHistory) (new : Option DeviceHistory) (end : ℕ) (found : List LogItem) → Opened (Some h) new end found
    → AddsAll (Some h) new (opening_ops (content h))

-- a device whose opening is refused gets a front of opening's operations
abbrev pub RefusalAdds : Type 0
RefusalAdds =
    (h : DeviceHistory) (new : Option DeviceHistory) (why : OpenNo) → Refused (Some h) new why
    → AddsUpToFault (Some h) new (opening_ops (content h))

-- behind opening's operations the device holds the log that was found, or made
abbrev pub OpeningGives : Type 0
OpeningGives =
    (h : DeviceHistory) (new : Option DeviceHistory) (end : ℕ) (found : List LogItem) → Opened (Some h) new end found
    → DeviceLog (with_ops h (opening_ops (content h))) end (bytes_of found)

-- whatever a crash leaves while opening's operations are made has the items that were there
abbrev pub OpeningKeeps : Type 0
OpeningKeeps =
    (h : DeviceHistory) (items : List (List ℕ)) → disk h ≡ settled (content h) → IsLog (content h) items
    → EachMoment (disk h) (opening_ops (content h)) (λ image. IsLog image items)

-- opening's operations leave the format that the bytes stand for
abbrev pub OpeningKeepsFormat : Type 0
OpeningKeepsFormat =
    (h : DeviceHistory) (new : Option DeviceHistory) (end : ℕ) (found : List LogItem) → Opened (Some h) new end found
    → format_in (content (with_ops h (opening_ops (content h)))) ≡ format_in (content h)

-- ---- an append

-- behind an append's operations the device holds the log with the items added
abbrev pub AppendGives : Type 0
AppendGives =
    (h : DeviceHistory) (end : ℕ) (items added : List (List ℕ)) → MayAppend end added → DeviceLog h end items
    → DeviceLog (with_ops h (append_ops end added)) (end_behind end added) (items ++ added)

-- whatever a crash leaves while an append's operations are made has the items from before, or these and all that are added
abbrev pub AppendKeeps : Type 0
AppendKeeps =
    (h : DeviceHistory) (end : ℕ) (items added : List (List ℕ)) → MayAppend end added → DeviceLog h end items
    → EachMoment (disk h) (append_ops end added) (λ image. IsLog image items ⊎ IsLog image (items ++ added))

-- an append leaves the mark, and so the format
abbrev pub AppendKeepsFormat : Type 0
AppendKeepsFormat =
    (h : DeviceHistory) (end : ℕ) (items added : List (List ℕ)) → MayAppend end added → DeviceLog h end items
    → marked_format (content (with_ops h (append_ops end added))) ≡ marked_format (content h)

-- whatever a crash leaves while an append's operations are made has the mark from before
abbrev pub AppendKeepsMark : Type 0
AppendKeepsMark =
    (h : DeviceHistory) (end : ℕ) (items added : List (List ℕ)) → MayAppend end added → DeviceLog h end items
    → EachMoment (disk h) (append_ops end added) (λ image. marked_format image ≡ marked_format (content h))

-- ---- an upgrade

-- behind an upgrade's operations the device holds the same log in format 2
abbrev pub UpgradeGives : Type 0
UpgradeGives =
    (h : DeviceHistory) (end : ℕ) (items : List (List ℕ)) → DeviceLog h end items
    → DeviceLog (with_ops h upgrade_ops) end items × (marked_format (content (with_ops h upgrade_ops)) ≡ 2)

-- whatever a crash leaves while an upgrade's operations are made has the items that were there
abbrev pub UpgradeKeeps : Type 0
UpgradeKeeps =
    (h : DeviceHistory) (end : ℕ) (items : List (List ℕ)) → DeviceLog h end items
    → EachMoment (disk h) upgrade_ops (λ image. IsLog image items)

-- bytes with a mark of format 2 are of format 2, however long they are
abbrev pub MarkedIsSecond : Type 0
MarkedIsSecond = (bytes : List ℕ) → marked_format bytes ≡ 2 → format_in bytes ≡ 2

-- ---- a clearing

-- behind a clearing's operations the device holds a log of no item
abbrev pub ClearGives : Type 0
ClearGives =
    (h : DeviceHistory) (end : ℕ) (items : List (List ℕ)) → DeviceLog h end items
    → DeviceLog (with_ops h (clear_ops end)) FIRST_GATE []

-- whatever a crash leaves while a clearing's operations are made has the items from before, or none
abbrev pub ClearKeeps : Type 0
ClearKeeps =
    (h : DeviceHistory) (end : ℕ) (items : List (List ℕ)) → DeviceLog h end items
    → EachMoment (disk h) (clear_ops end) (λ image. IsLog image items ⊎ IsLog image [])

-- a clearing leaves the format
abbrev pub ClearKeepsFormat : Type 0
ClearKeepsFormat =
    (h : DeviceHistory) (end format : ℕ) (items : List (List ℕ)) → DeviceLog h end items → HasFormat (Some h) format
    → HasFormat (Some (with_ops h (clear_ops end))) format

-- whatever a crash leaves while a clearing's operations are made has the mark from before
abbrev pub ClearKeepsMark : Type 0
ClearKeepsMark =
    (h : DeviceHistory) (end : ℕ) (items : List (List ℕ)) → DeviceLog h end items
    → EachMoment (disk h) (clear_ops end) (λ image. marked_format image ≡ marked_format (content h))

-- ---- a beginning: an opening, and an upgrade where the log is of format 1

-- behind the operations of a beginning the device holds the log that was found, or made
abbrev pub BeginningGives : Type 0
BeginningGives =
    (h : DeviceHistory) (new : Option DeviceHistory) (end : ℕ) (found : List LogItem) → Opened (Some h) new end found
    → DeviceLog (with_ops h (beginning_ops (content h))) end (bytes_of found)

-- whatever a crash leaves while a beginning's operations are made has the items that were there
abbrev pub BeginningKeeps : Type 0
BeginningKeeps =
    (h : DeviceHistory) (items : List (List ℕ)) → disk h ≡ settled (content h) → IsLog (content h) items
    → EachMoment (disk h) (beginning_ops (content h)) (λ image. IsLog image items)

-- behind the operations of a beginning the mark is one of format 2
abbrev pub BeginningMakesSecond : Type 0
BeginningMakesSecond =
    (h : DeviceHistory) (new : Option DeviceHistory) (end : ℕ) (found : List LogItem) → Opened (Some h) new end found
    → marked_format (content (with_ops h (beginning_ops (content h)))) ≡ 2

-- whatever a crash leaves while a beginning's operations are made is no log of format 1 with an item, where there was none
abbrev pub BeginningKeepsRecent : Type 0
BeginningKeepsRecent =
    (h : DeviceHistory) (items : List (List ℕ)) → disk h ≡ settled (content h) → IsLog (content h) items → ¬ IsOld (content h)
    → EachMoment (disk h) (beginning_ops (content h)) (λ image. ¬ IsOld image)
