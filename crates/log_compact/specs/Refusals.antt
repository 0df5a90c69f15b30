-- Why lists fold to nothing. The causes stand in the order in which they are asked.
use Rattle.std.specs.Prelude.{◌≡◌, ◌≢◌, ℕ, zero, suc, List, ◌∷◌, ◌++◌, length, ⊤}
use Rattle.std.specs.List.{AllByRecursion}
use Rattle.txn_records.specs.declared.keys.Key.TheVariants as keys
use Rattle.txn_records.specs.declared.records.Record.{Record}
use Rattle.snap_recover.specs.declared.refusals.RecoverNo.TheVariants as recovery
use Rattle.snap_recover.specs.Refusals.{IsRefused}
use Rattle.log_compact.specs.declared.refusals.CheckpointNo.{CheckpointNo}
use Rattle.log_compact.specs.declared.refusals.CheckpointNo.TheVariants as checkpoint
use Rattle.log_compact.specs.declared.refusals.FoldNo.{FoldNo}
use Rattle.log_compact.specs.declared.refusals.FoldNo.TheVariants.{Stray, Range, Recover, Memory}
use Rattle.log_compact.specs.Points.{IsPlain}
use Rattle.log_compact.specs.Sets.{point_in, point_of, IsFirstList, HasNoStray, IsPointInRange, OfPoint, plain_lists}

-- no checkpoint stands in this list where none may: the first list may have one in second place
abbrev pub IsListFit : ℕ → List Record → Type 0
IsListFit zero rs = IsFirstList rs (point_in rs)
IsListFit (suc n) rs = AllByRecursion IsPlain rs

-- the first list in which a checkpoint stands where none may
abbrev pub IsFirstStray : List (List Record) → ℕ → Type 0
IsFirstStray lists log =
    (front behind : List (List Record)) × (rs : List Record) × (lists ≡ front ++ rs ∷ behind) × (log ≡ length front)
    × HasNoStray front × ¬ IsListFit log rs

-- the lists are refused with this answer
abbrev pub IsNotFolded : List (List Record) → FoldNo → Type 0
IsNotFolded lists (Stray log) = IsFirstStray lists log
IsNotFolded lists (Range k log) = HasNoStray lists × (k ≡ keys.Checkpoint) × (log ≡ 0) × ¬ OfPoint IsPointInRange (point_of lists)
IsNotFolded lists (Recover why) =
    HasNoStray lists × OfPoint IsPointInRange (point_of lists) × (why ≢ recovery.Memory) × IsRefused (plain_lists lists) why
IsNotFolded lists Memory = ⊤

-- ---- the checkpoint alone

-- what the lists are refused with where their checkpoint is
abbrev pub fold_no : CheckpointNo → FoldNo
fold_no (checkpoint.Stray log) = Stray log
fold_no checkpoint.Range = Range keys.Checkpoint 0

abbrev pub IsCheckpointRefused : List (List Record) → CheckpointNo → Type 0
IsCheckpointRefused lists why = IsNotFolded lists (fold_no why)
