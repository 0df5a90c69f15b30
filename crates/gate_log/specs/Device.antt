-- A log on a device, and what each crash inside a call leaves of it.
use Rattle.std.specs.Prelude.{◌≡◌, ℕ, ◌+◌, ◌-◌, ◌<◌, ◌≤◌, ◌^◌, ◌⊎◌, List, [], ◌++◌, length, Option, IfSome, IsSome}
use Rattle.std.specs.Option.{ForSome}
use Rattle.std.specs.List.{AllByRecursion}
use Rattle.snap_outside.specs.declared.devices.DevOp.{DevOp}
use Rattle.snap_outside.specs.Disk.{DeviceHistory, disk, content, settled, EachMoment, AddsAll}
use Rattle.gate_log.specs.declared.limits.TheConstants.{LARGEST_GROUP}
use Rattle.gate_log.specs.Bytes.{FIRST_GATE, IsItem, IsLog, IsLogAt, marked_format, format_in, items_bytes}

-- The device holds a log of these items whose closed gate stands at `end`, and nothing of it is loose.
pub record DeviceLog (h : DeviceHistory) (end : ℕ) (items : List (List ℕ)) : Type 0 where
  pub log : IsLogAt (content h) end items
  pub quiet : disk h ≡ settled (content h)

-- what may be appended at `end`
pub record MayAppend (end : ℕ) (added : List (List ℕ)) : Type 0 where
  pub items : AllByRecursion IsItem added
  pub short : length (items_bytes added) ≤ LARGEST_GROUP
  pub fits : end + length (items_bytes added) < 2 ^ 64 - 8

-- The device held a log; now it holds the same with the items added.
abbrev pub Appended : Option DeviceHistory → Option DeviceHistory → ℕ → ℕ → List (List ℕ) → Type 0
Appended old new end_before end_after added =
    IfSome old (λ h. IfSome new (λ g. (items : List (List ℕ)) → DeviceLog h end_before items → DeviceLog g end_after (items ++ added)))

-- Whatever a crash leaves at any moment of the call is the log from before it, or that log with all that is added.
abbrev pub Crashes : Option DeviceHistory → Option DeviceHistory → ℕ → List (List ℕ) → Type 0
Crashes old new end added =
    IfSome old (λ h. (ops : List DevOp) × AddsAll old new ops
    × ((items : List (List ℕ)) → DeviceLog h end items → EachMoment (disk h) ops (λ image. IsLog image items ⊎ IsLog image (items ++ added))))

-- The format is that of what the device holds, and that which its mark tells. A device of nine bytes with the mark of format 1
-- stands for format 2, but is made anew before anything is appended.
abbrev pub HasFormat : Option DeviceHistory → ℕ → Type 0
HasFormat told format = IfSome told (λ h. (format ≡ marked_format (content h)) × (format ≡ format_in (content h)))

-- Whatever a crash leaves at any moment of an upgrade is the log from before it, in one of the two formats.
abbrev pub UpgradesSafely : Option DeviceHistory → Option DeviceHistory → ℕ → Type 0
UpgradesSafely old new end =
    IfSome old (λ h. (ops : List DevOp) × AddsAll old new ops
    × ((items : List (List ℕ)) → DeviceLog h end items → EachMoment (disk h) ops (λ image. IsLog image items)))

-- The device held a log; now it holds the same in format 2.
abbrev pub Upgraded : Option DeviceHistory → Option DeviceHistory → ℕ → Type 0
Upgraded old new end =
    IfSome old (λ h. IfSome new (λ g. (items : List (List ℕ)) → DeviceLog h end items → DeviceLog g end items))
    × HasFormat new 2

-- Whatever a crash leaves at any moment of a clearing is the log from before it, or one of no item.
abbrev pub ClearsSafely : Option DeviceHistory → Option DeviceHistory → ℕ → Type 0
ClearsSafely old new end =
    IfSome old (λ h. (ops : List DevOp) × AddsAll old new ops
    × ((items : List (List ℕ)) → DeviceLog h end items → EachMoment (disk h) ops (λ image. IsLog image items ⊎ IsLog image [])))

-- The device held a log; now it holds one of no item.
abbrev pub Cleared : Option DeviceHistory → Option DeviceHistory → ℕ → Type 0
Cleared old new end =
    IfSome old (λ h. IfSome new (λ g. (items : List (List ℕ)) → DeviceLog h end items → DeviceLog g FIRST_GATE []))

-- Where a log is not shut: if the device tells its history, it holds a log at `end` of this format; its length is known, and
-- the closed gate lies in the device.
pub record IsReadyDevice (told : Option DeviceHistory) (told_length : Option ℕ) (end format : ℕ) : Type 0 where
  pub log : IfSome told (λ h. (items : List (List ℕ)) × DeviceLog h end items)
  pub formatted : HasFormat told format
  pub begun : 8 ≤ end
  pub known : IsSome told_length
  pub within : ForSome told_length (λ len. end < len)
