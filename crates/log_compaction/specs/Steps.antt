-- What the steps of the command that compacts go by, on four open logs. The rules are Compacted.antt.
use Rattle.std.specs.Prelude.{◌≡◌, ◌≢◌, ℕ, ◌+◌, ◌<◌, ◌≤◌, ◌⊎◌, List, [], length, ⊤}
use Rattle.std.specs.List.{AllZip}
use Rattle.gate_log.specs.declared.logs.LogItem.{LogItem}
use Rattle.gate_log.specs.State.{LogState, log_at}
use Rattle.txn_records.specs.declared.records.Record.{Record}
use Rattle.snap_recover.specs.declared.causes.LogCause.TheVariants as cause
use Rattle.log_compact.specs.declared.folds.Folded.{Folded}
use Rattle.log_compact.specs.Sets.{IsFolded}
use Rattle.log_opening.specs.Devices.{Device}
use Rattle.log_opening.specs.Found.{AreAllFound, IsTouched}
use Rattle.log_opening.specs.Kept.{AreFolded, AreGiven}
use Rattle.log_opening.specs.Upgrades.{items_at}
use Rattle.log_opening.specs.declared.refusals.LogsNo.{LogsNo}
use Rattle.log_opening.specs.declared.refusals.LogsNo.TheVariants as ending
use Rattle.log_compaction.specs.declared.refusals.CompactNo.{CompactNo}
use Rattle.log_compaction.specs.declared.refusals.CompactNo.TheVariants.{Logs, TooMany}
use Rattle.log_compaction.specs.declared.writes.CompactionNo.TheVariants as writing
use Rattle.log_compaction.specs.Compacted.{IsFirstSpentOf, IsUnspentFold, MayCompactLogs, numbers_of}
use Rattle.log_compaction.specs.Crashes.{CompactsSafely}
use Rattle.log_compaction.specs.Written.{IsWriteCause}

-- ---- four open logs

-- The four logs are open on their devices, in which these items were found; those in use, from the head on, hold these records, and these
-- fold to this.
pub record IsOpenSet (before : List Device) (logs : List LogState) (found : List (List LogItem)) (head : ℕ) (lists : List (List Record)) (f : Folded) : Type 0 where
  pub all : AreAllFound before logs found
  pub given : AreGiven before head lists
  pub within : head + length lists ≤ 4
  pub folded : IsFolded lists f

-- ---- refusals

-- the log is of format 1 and has an item
abbrev pub IsOldAt : List LogState → List (List LogItem) → ℕ → Type 0
IsOldAt logs found d = ((log_at logs d).format ≡ 1) × (items_at found d ≢ [])

-- so is none of the logs in use, so many from the head on
abbrev pub AreRecent : List LogState → List (List LogItem) → ℕ → ℕ → Type 0
AreRecent logs found head count = (l : ℕ) → l < count → ¬ IsOldAt logs found (head + l)

-- this one is so, and it is the least such
pub record IsFirstOld (logs : List LogState) (found : List (List LogItem)) (head count log : ℕ) : Type 0 where
  pub number : ℕ
  pub asked : number < count
  pub is : log ≡ head + number
  pub old : IsOldAt logs found log
  pub least : AreRecent logs found head number

-- nothing refuses the logs in use
pub record MayBeWritten (logs : List LogState) (found : List (List LogItem)) (head count : ℕ) (f : Folded) : Type 0 where
  pub recent : AreRecent logs found head count
  pub unspent : IsUnspentFold f
  pub few : count ≤ 2

-- why the logs in use are refused, in the order in which it is asked
abbrev pub IsRefusedFor : List LogState → List (List LogItem) → ℕ → ℕ → Folded → CompactNo → Type 0
IsRefusedFor logs found head count f (Logs (ending.Refused log offset cause.OldFormat)) = (offset ≡ 0) × IsFirstOld logs found head count log
IsRefusedFor logs found head count f (Logs (ending.Refused log offset (cause.Spent number))) =
    (offset ≡ 0) × (log ≡ head) × AreRecent logs found head count × IsFirstSpentOf (numbers_of f) number
IsRefusedFor logs found head count f (Logs (ending.Refused log offset c)) = ⊥
IsRefusedFor logs found head count f (Logs (ending.Device log)) = ⊥
IsRefusedFor logs found head count f (Logs ending.Memory) = ⊥
IsRefusedFor logs found head count f (TooMany logs_in_use) = AreRecent logs found head count × IsUnspentFold f × (logs_in_use ≡ count) × (2 < count)

-- ---- writes

-- why the checkpoint is not written, or not all that was in use is cleared: a device failed, or there was no memory
abbrev pub IsNotCompacted : List LogState → List LogState → ℕ → ℕ → LogsNo → Type 0
IsNotCompacted old new head count (ending.Device log) = IsWriteCause old new head count (writing.Device log)
IsNotCompacted old new head count (ending.Refused log offset c) = ⊥
IsNotCompacted old new head count ending.Memory = ⊤

-- ---- crashes

-- No device got another call than those of opening, or the logs in use were not refused.
abbrev pub IsGuarded : List Device → List Device → Type 0
IsGuarded before after =
    AllZip IsTouched before after ⊎ ((logs : AreFolded before) × MayCompactLogs before logs.head (length logs.lists) logs.fold)

-- Then each crash leaves what folds to the same. A law of `src/laws.rt` says this.
abbrev pub GuardedIsSafe : Type 0
GuardedIsSafe = (before after : List Device) → IsGuarded before after → CompactsSafely before after
