-- A device as its history shows it: what a read gives, and what a crash may leave.
use Rattle.std.specs.Prelude.{◌≡◌, ◌≢◌, ℕ, ◌+◌, ◌<◌, ◌≤◌, ◌⊎◌, List, [], ◌∷◌, ◌++◌, length, take, drop, slice_index, Option, None, Some, ⊤}
use Rattle.snap_outside.specs.declared.devices.DevOp.{DevOp}
use Rattle.snap_outside.specs.declared.devices.DevOp.TheVariants.{Write, Sync}

-- the bytes that a device was handed over with, and the operations since
pub record DeviceHistory : Type 0 where
  pub first : List ℕ
  pub ops : List DevOp

-- what the last sync fixed, what a read gives, and the ranges written since that sync: from where, how long
pub record Disk : Type 0 where
  pub synced : List ℕ
  pub now : List ℕ
  pub loose : List (ℕ × ℕ)

-- a disk on which all is fixed
abbrev pub settled : List ℕ → Disk
settled bytes = record { synced = bytes; now = bytes; loose = [] }

-- bytes with a piece written over them, or past their end, from a place on
abbrev pub overwritten : List ℕ → ℕ → List ℕ → List ℕ
overwritten old at piece = take at old ++ (piece ++ drop (at + length piece) old)

-- the disk after one operation: a write makes its range loose, and a sync fixes all
abbrev pub op_done : DevOp → Disk → Disk
op_done (Write at piece) d = record { synced = d.synced; now = overwritten d.now at piece; loose = record { 0 = at; 1 = length piece } ∷ d.loose }
op_done Sync d = settled d.now

-- the disk after operations, one after the other
abbrev pub disk_after : List DevOp → Disk → Disk
disk_after [] d = d
disk_after (op ∷ ops) d = disk_after ops (op_done op d)

-- the disk of a device with this history, whose first bytes were all fixed
abbrev pub disk : DeviceHistory → Disk
disk h = disk_after h.ops (settled h.first)

-- what a read of all bytes gives
abbrev pub content : DeviceHistory → List ℕ
content h = (disk h).now

-- what a read of all bytes gives after these operations on a device that began with these bytes
abbrev pub content_of : List ℕ → List DevOp → List ℕ
content_of first ops = content (record { first = first; ops = ops })

-- no range written since the sync covers the place
abbrev pub IsFixed : List (ℕ × ℕ) → ℕ → Type 0
IsFixed [] i = ⊤
IsFixed (range ∷ ranges) i = ((i < range.0) ⊎ (range.0 + range.1 ≤ i)) × IsFixed ranges i

-- A crash may leave these bytes: each byte that the sync fixed and no later write covers stays; every other
-- one may be any byte; the length lies between.
pub record IsImage (d : Disk) (image : List ℕ) : Type 0 where
  pub no_shorter : length d.synced ≤ length image
  pub no_longer : length image ≤ length d.now
  pub fixed : (i : ℕ) → i < length d.synced → IsFixed d.loose i → slice_index image i ≡ slice_index d.synced i

-- whatever a crash leaves now has P
abbrev pub EachImage : Disk → (List ℕ → Type 0) → Type 0
EachImage d P = (image : List ℕ) → IsImage d image → P image

-- whatever a crash leaves before, between and after these operations has P
abbrev pub EachMoment : Disk → List DevOp → (List ℕ → Type 0) → Type 0
EachMoment d [] P = EachImage d P
EachMoment d (op ∷ ops) P = EachImage d P × EachMoment (op_done op d) ops P

-- ---- what a call does to a device's history, where it is told

-- the history with one operation more
abbrev pub with_op : DeviceHistory → DevOp → DeviceHistory
with_op h op = record { first = h.first; ops = h.ops ++ op ∷ [] }

-- the history with these operations more
abbrev pub with_ops : DeviceHistory → List DevOp → DeviceHistory
with_ops h ops = record { first = h.first; ops = h.ops ++ ops }

-- the operation is added
abbrev pub AddsOperation : Option DeviceHistory → Option DeviceHistory → DevOp → Type 0
AddsOperation None new op = new ≡ None
AddsOperation (Some h) new op = new ≡ Some (with_op h op)

-- the operation is added, or nothing
abbrev pub MayAdd : Option DeviceHistory → Option DeviceHistory → DevOp → Type 0
MayAdd None new op = new ≡ None
MayAdd (Some h) new op = (new ≡ Some h) ⊎ (new ≡ Some (with_op h op))

-- these operations are added
abbrev pub AddsAll : Option DeviceHistory → Option DeviceHistory → List DevOp → Type 0
AddsAll None new ops = new ≡ None
AddsAll (Some h) new ops = new ≡ Some (with_ops h ops)

-- these operations are made from the first on, and not all of them
pub record IsCutShort (made ops : List DevOp) : Type 0 where
  pub left : List DevOp
  pub some : left ≢ []
  pub whole : ops ≡ made ++ left

-- the operations are added up to a fault, which left at least one of them out
abbrev pub AddsUpToFault : Option DeviceHistory → Option DeviceHistory → List DevOp → Type 0
AddsUpToFault old new ops = (made : List DevOp) × IsCutShort made ops × AddsAll old new made
