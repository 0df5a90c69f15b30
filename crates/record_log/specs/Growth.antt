-- How the history of a device grows while groups of records are appended to its log, and what a crash leaves of it.
use Rattle.std.specs.Prelude.{◌≡◌, ◌≢◌, ℕ, ◌⊎◌, List, [], ◌∷◌, ◌++◌, Option, None, Some, ⊤}
use Rattle.std.specs.List.{AllByRecursion, flat_map}
use Rattle.snap_outside.specs.declared.devices.DevOp.{DevOp}
use Rattle.snap_outside.specs.Disk.{DeviceHistory, content, AddsAll, IsCutShort}
use Rattle.gate_log.specs.Device.{MayAppend}
use Rattle.gate_log.specs.Appends.{append_ops, end_behind, upgrading_ops}
use Rattle.gate_log.specs.Opened.{beginning_ops}
use Rattle.txn_records.specs.declared.records.Record.{Record}
use Rattle.txn_records.specs.Records.{IsRecord}
use Rattle.record_log.specs.Records.{spelled, HoldsRecords}

-- the records of groups, in order
abbrev pub all_records : List (List Record) → List Record
all_records groups = flat_map (λ (group : List Record). group) groups

-- the operations of one append for each group, in order, from a closed gate on
abbrev pub groups_ops : ℕ → List (List Record) → List DevOp
groups_ops end [] = []
groups_ops end (group ∷ groups) = append_ops end (spelled group) ++ groups_ops (end_behind end (spelled group)) groups

-- where the closed gate stands behind them
abbrev pub end_behind_groups : ℕ → List (List Record) → ℕ
end_behind_groups end [] = end
end_behind_groups end (group ∷ groups) = end_behind_groups (end_behind end (spelled group)) groups

-- the records may be appended as one group at `end`
pub record MayAppendGroup (end : ℕ) (group : List Record) : Type 0 where
  pub records : AllByRecursion IsRecord group
  pub may : MayAppend end (spelled group)

-- each group may be appended behind those before it
abbrev pub MayAppendGroups : ℕ → List (List Record) → Type 0
MayAppendGroups end [] = ⊤
MayAppendGroups end (group ∷ groups) = MayAppendGroup end group × MayAppendGroups (end_behind end (spelled group)) groups

-- ---- how a history grew

-- what was made of the append that met a fault, where one did
abbrev pub IsTried : ℕ → Option (List Record) → List DevOp → Type 0
IsTried end None made = made ≡ []
IsTried end (Some group) made = MayAppendGroup end group × IsCutShort made (append_ops end (spelled group))

-- The operations are those of opening a device with these bytes, whose closed gate then stands at `end`, and of upgrading its
-- log, where it is of format 1; those of one append for each of the groups, in order; and a front of those of the append that met
-- a fault, where one did.
pub record IsGrowth (bytes : List ℕ) (end : ℕ) (groups : List (List Record)) (tried : Option (List Record)) (ops : List DevOp) : Type 0 where
  pub may : MayAppendGroups end groups
  pub begun : List DevOp
  pub last : IsTried (end_behind_groups end groups) tried begun
  pub parts : ops ≡ beginning_ops bytes ++ (groups_ops end groups ++ begun)

-- what a device that told this gets between its opening and the first append
abbrev pub upgrading_of : Option DeviceHistory → List DevOp
upgrading_of None = []
upgrading_of (Some h) = upgrading_ops (content h)

-- the device's history grew so
abbrev pub GrewBy : Option DeviceHistory → Option DeviceHistory → ℕ → List (List Record) → Option (List Record) → Type 0
GrewBy None new end groups tried = new ≡ None
GrewBy (Some h) new end groups tried = (ops : List DevOp) × IsGrowth (content h) end groups tried ops × AddsAll (Some h) new ops

-- the groups whose appends were begun
abbrev pub begun_groups : List (List Record) → Option (List Record) → List (List Record)
begun_groups groups None = groups
begun_groups groups (Some group) = groups ++ group ∷ []

-- ---- what a crash leaves

-- these operations are a front of the next group's append, and not all of it
abbrev pub IsNextCutShort : ℕ → List (List Record) → List DevOp → Type 0
IsNextCutShort end [] begun = begun ≡ []
IsNextCutShort end (group ∷ groups) begun = IsCutShort begun (append_ops end (spelled group))

-- these operations are a front of the next group's append, or all of it
abbrev pub IsNextBegun : ℕ → List (List Record) → List DevOp → Type 0
IsNextBegun end [] begun = begun ≡ []
IsNextBegun end (group ∷ groups) begun = (left : List DevOp) × (append_ops end (spelled group) ≡ begun ++ left)

-- the records, and those of the first of the groups
abbrev pub HoldsOneMore : List ℕ → List Record → List (List Record) → Type 0
HoldsOneMore image rs [] = ⊥
HoldsOneMore image rs (group ∷ groups) = HoldsRecords image (rs ++ group)

-- the records; or, only where the append of the first of the groups has begun, these with its own
abbrev pub HoldsWhole : List Record → List (List Record) → List DevOp → List ℕ → Type 0
HoldsWhole rs later begun image = HoldsRecords image rs ⊎ ((begun ≢ []) × HoldsOneMore image rs later)

-- Once these operations of the appends are made a crash leaves the earlier records with those of the appends that are
-- whole; or, only where one more append has begun, with those of one more.
pub record LeavesGroups (end : ℕ) (rs : List Record) (groups : List (List Record)) (made : List DevOp) (image : List ℕ) : Type 0 where
  pub whole : List (List Record)
  pub later : List (List Record)
  pub begun : List DevOp
  pub splits : groups ≡ whole ++ later
  pub so_far : made ≡ groups_ops end whole ++ begun
  pub next : IsNextCutShort (end_behind_groups end whole) later begun
  pub holds : HoldsWhole (rs ++ all_records whole) later begun image

-- Once these operations are made, from the first one of opening on, a crash leaves this: the earlier records, until the log
-- may be appended to, and from then on whole groups.
abbrev pub Leaves : List ℕ → ℕ → List Record → List (List Record) → List DevOp → List ℕ → Type 0
Leaves bytes end rs groups made image =
    (IsCutShort made (beginning_ops bytes) × HoldsRecords image rs)
    ⊎ ((more : List DevOp) × (made ≡ beginning_ops bytes ++ more) × LeavesGroups end rs groups more image)
