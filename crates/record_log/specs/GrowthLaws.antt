-- What holds of every log of records to which groups are appended. A law of `src/growth.rt` says each of these, and a
-- proof that rests on one takes it as a premise.
use Rattle.std.specs.Prelude.{◌≡◌, ℕ, List, [], ◌∷◌, ◌++◌, Option, None, Some}
use Rattle.snap_outside.specs.declared.devices.DevOp.{DevOp}
use Rattle.snap_outside.specs.Disk.{DeviceHistory, disk, disk_after, content, settled, with_ops, IsImage, AddsAll, AddsUpToFault}
use Rattle.gate_log.specs.declared.logs.LogItem.{LogItem}
use Rattle.gate_log.specs.Appends.{append_ops, end_behind}
use Rattle.gate_log.specs.Bytes.{IsOld}
use Rattle.gate_log.specs.Opened.{beginning_ops, Opened}
use Rattle.txn_records.specs.declared.records.Record.{Record}
use Rattle.record_log.specs.Growth.{all_records, groups_ops, end_behind_groups, MayAppendGroup, MayAppendGroups, IsGrowth, GrewBy, upgrading_of, begun_groups, IsNextBegun, HoldsWhole, Leaves}
use Rattle.record_log.specs.Records.{spelled, HoldsRecords, RecordLog}

-- ---- how a history comes to have grown so

-- the device is opened, and its log upgraded where it is of format 1
abbrev pub OpeningGrows : Type 0
OpeningGrows =
    (old opened new : Option DeviceHistory) (end : ℕ) (found : List LogItem)
    → Opened old opened end found → AddsAll opened new (upgrading_of old) → GrewBy old new end [] None

-- one more append is whole
abbrev pub GroupGrows : Type 0
GroupGrows =
    (old between new : Option DeviceHistory) (end : ℕ) (groups : List (List Record)) (group : List Record)
    → GrewBy old between end groups None → MayAppendGroup (end_behind_groups end groups) group
    → AddsAll between new (append_ops (end_behind_groups end groups) (spelled group)) → GrewBy old new end (groups ++ group ∷ []) None

-- one more append met a fault
abbrev pub FaultGrows : Type 0
FaultGrows =
    (old between new : Option DeviceHistory) (end : ℕ) (groups : List (List Record)) (group : List Record)
    → GrewBy old between end groups None → MayAppendGroup (end_behind_groups end groups) group
    → AddsUpToFault between new (append_ops (end_behind_groups end groups) (spelled group)) → GrewBy old new end groups (Some group)

-- the closed gate moves on behind one more group
abbrev pub EndGrows : Type 0
EndGrows =
    (end : ℕ) (groups : List (List Record)) (group : List Record)
    → end_behind_groups end (groups ++ group ∷ []) ≡ end_behind (end_behind_groups end groups) (spelled group)

-- ---- what the log holds then

-- Where each append is whole the device holds a log of the earlier records and those of all groups.
abbrev pub GrowthGives : Type 0
GrowthGives =
    (h : DeviceHistory) (opened : Option DeviceHistory) (end : ℕ) (found : List LogItem) (rs : List Record) (groups : List (List Record)) (ops : List DevOp)
    → Opened (Some h) opened end found → HoldsRecords (content h) rs → IsGrowth (content h) end groups None ops
    → RecordLog (with_ops h ops) (end_behind_groups end groups) (rs ++ all_records groups)

-- At a moment at which these appends are whole, and of the next these operations are made, some or all, whatever a crash leaves
-- holds the earlier records with those of these appends, or, only where one more has begun, with those of one more.
abbrev pub MomentKeeps : Type 0
MomentKeeps =
    (h : DeviceHistory) (opened : Option DeviceHistory) (end : ℕ) (found : List LogItem)
    (rs : List Record) (whole later : List (List Record)) (begun : List DevOp)
    → Opened (Some h) opened end found → HoldsRecords (content h) rs
    → MayAppendGroups end (whole ++ later) → IsNextBegun (end_behind_groups end whole) later begun
    → (image : List ℕ) → IsImage (disk_after (beginning_ops (content h) ++ (groups_ops end whole ++ begun)) (disk h)) image
    → HoldsWhole (rs ++ all_records whole) later begun image

-- And it is no log of format 1 with an item.
abbrev pub MomentIsRecent : Type 0
MomentIsRecent =
    (h : DeviceHistory) (opened : Option DeviceHistory) (end : ℕ) (found : List LogItem)
    (rs : List Record) (whole later : List (List Record)) (begun : List DevOp)
    → Opened (Some h) opened end found → HoldsRecords (content h) rs
    → MayAppendGroups end (whole ++ later) → IsNextBegun (end_behind_groups end whole) later begun
    → (image : List ℕ) → IsImage (disk_after (beginning_ops (content h) ++ (groups_ops end whole ++ begun)) (disk h)) image
    → ¬ IsOld image

-- At each moment, whatever a crash leaves holds the earlier records with those of the appends that are whole, or with
-- those of one more that has begun.
abbrev pub GrowthKeeps : Type 0
GrowthKeeps =
    (h : DeviceHistory) (opened : Option DeviceHistory) (end : ℕ) (found : List LogItem)
    (rs : List Record) (groups : List (List Record)) (tried : Option (List Record)) (ops : List DevOp)
    → Opened (Some h) opened end found → disk h ≡ settled (content h) → HoldsRecords (content h) rs
    → IsGrowth (content h) end groups tried ops
    → (made left : List DevOp) → ops ≡ made ++ left → (image : List ℕ) → IsImage (disk_after made (disk h)) image
    → Leaves (content h) end rs (begun_groups groups tried) made image
