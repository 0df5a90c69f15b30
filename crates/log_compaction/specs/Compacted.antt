-- What compacting the logs leaves of the four devices, and why they are not compacted.
use Rattle.std.specs.Prelude.{◌≡◌, ◌≢◌, ℕ, ◌+◌, ◌<◌, ◌≤◌, ◌⊎◌, List, [], ◌∷◌, length}
use Rattle.std.specs.List.{AllByRecursion}
use Rattle.snap_outside.specs.Causes.{Rose}
use Rattle.snap_recover.specs.declared.causes.LogCause.TheVariants as cause
use Rattle.log_compact.specs.declared.folds.Folded.{Folded}
use Rattle.log_compact.specs.Compacting.{IsOnSide, group_for, other_side}
use Rattle.log_opening.specs.Devices.{Device, AreOpened, HoldNoOld, HoldsOld, device_at}
use Rattle.log_opening.specs.Kept.{AreFolded, DeviceHolds, IsLogsNo}
use Rattle.log_opening.specs.declared.refusals.LogsNo.{LogsNo}
use Rattle.log_opening.specs.declared.refusals.LogsNo.TheVariants as ending
use Rattle.log_compaction.specs.Crashes.{IsAtMoment}
use Rattle.log_compaction.specs.declared.refusals.CompactNo.{CompactNo}
use Rattle.log_compaction.specs.declared.refusals.CompactNo.TheVariants.{Logs, TooMany}
use Rattle.log_compaction.specs.declared.limits.TheConstants.{GREATEST_TO_COMPACT}

-- ---- refusals, in their order: those of recovering, a log of an old format, a number that is spent, too many logs

-- a log in use is of format 1 and has an item, and it is the least such
pub record HasOldLog (before : List Device) (head count log : ℕ) : Type 0 where
  pub number : ℕ
  pub asked : number < count
  pub is : log ≡ head + number
  pub old : HoldsOld (device_at before log)
  pub least : HoldNoOld head number before

-- the numbers of a fold, in the order in which they are asked
abbrev pub numbers_of : Folded → List ℕ
numbers_of f = f.opening.next_tid.0 ∷ f.opening.next_bid.0 ∷ f.opening.next_c ∷ f.generation ∷ f.batches ∷ f.acts ∷ []

-- the first of them that is too large
abbrev pub IsFirstSpentOf : List ℕ → ℕ → Type 0
IsFirstSpentOf [] n = ⊥
IsFirstSpentOf (x ∷ xs) n = ((GREATEST_TO_COMPACT < x) × (n ≡ x)) ⊎ ((x ≤ GREATEST_TO_COMPACT) × IsFirstSpentOf xs n)

-- None is too large.
abbrev pub IsUnspentFold : Folded → Type 0
IsUnspentFold f = AllByRecursion (λ n. n ≤ GREATEST_TO_COMPACT) (numbers_of f)

-- Nothing refuses the logs in use.
pub record MayCompactLogs (before : List Device) (head count : ℕ) (f : Folded) : Type 0 where
  pub recent : HoldNoOld head count before
  pub unspent : IsUnspentFold f
  pub few : count ≤ 2

-- ---- the answers

-- The logs in use are compacted to a checkpoint of this generation: the first log of the other side has just Genesis and the checkpoint, and
-- that side's other logs, and those that were in use, have no record.
pub record AreCompacted (before after : List Device) (generation : ℕ) : Type 0 where
  pub logs : AreFolded before
  pub may : MayCompactLogs before logs.head (length logs.lists) logs.fold
  pub whole : IsAtMoment before after logs.head (length logs.lists) logs.fold
  pub next : generation ≡ logs.fold.generation + 1
  pub first : DeviceHolds (device_at after (other_side logs.head (length logs.lists))) (group_for (length logs.lists) logs.fold)
  pub side : (d : ℕ) → IsOnSide (other_side logs.head (length logs.lists)) (length logs.lists) d → d ≢ other_side logs.head (length logs.lists) → DeviceHolds (device_at after d) []
  pub old : (d : ℕ) → IsOnSide logs.head (length logs.lists) d → DeviceHolds (device_at after d) []

-- The logs in use are more than two. All are only opened.
pub record IsTooMany (before after : List Device) (count : ℕ) : Type 0 where
  pub logs : AreFolded before
  pub recent : HoldNoOld logs.head (length logs.lists) before
  pub unspent : IsUnspentFold logs.fold
  pub is : count ≡ length logs.lists
  pub many : 2 < count
  pub opened : AreOpened 4 before after

-- A log in use is of an old format, or a number of the fold is spent. All are only opened.
pub record IsTooOld (before after : List Device) (log : ℕ) : Type 0 where
  pub logs : AreFolded before
  pub old : HasOldLog before logs.head (length logs.lists) log
  pub opened : AreOpened 4 before after

pub record HasSpentNumber (before after : List Device) (log number : ℕ) : Type 0 where
  pub logs : AreFolded before
  pub recent : HoldNoOld logs.head (length logs.lists) before
  pub is : log ≡ logs.head
  pub spent : IsFirstSpentOf (numbers_of logs.fold) number
  pub opened : AreOpened 4 before after

-- The logs were not refused, and a device failed, or there was no memory. What was done until then is what is done up to some moment.
pub record WasBegun (before after : List Device) : Type 0 where
  pub logs : AreFolded before
  pub may : MayCompactLogs before logs.head (length logs.lists) logs.fold
  pub so_far : IsAtMoment before after logs.head (length logs.lists) logs.fold

-- why logs are not compacted
abbrev pub IsCompactNo : List Device → List Device → LogsNo → Type 0
IsCompactNo before after (ending.Refused log offset cause.OldFormat) = (offset ≡ 0) × IsTooOld before after log
IsCompactNo before after (ending.Refused log offset (cause.Spent number)) = (offset ≡ 0) × HasSpentNumber before after log number
IsCompactNo before after (ending.Refused log offset c) = IsLogsNo before after (ending.Refused log offset c)
IsCompactNo before after (ending.Device log) =
    IsLogsNo before after (ending.Device log) ⊎ (WasBegun before after × Rose (device_at before log).faults (device_at after log).faults)
IsCompactNo before after ending.Memory = IsLogsNo before after ending.Memory ⊎ WasBegun before after

-- the same, or the logs are too many
abbrev pub IsNoCompaction : List Device → List Device → CompactNo → Type 0
IsNoCompaction before after (Logs why) = IsCompactNo before after why
IsNoCompaction before after (TooMany logs) = IsTooMany before after logs
