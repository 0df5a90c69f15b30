-- Rounds of a follower over readings of the logs in use, and why one of them is refused.
use Rattle.std.specs.Prelude.{◌≡◌, ◌⊎◌, ℕ, ◌+◌, List, [], ◌∷◌, None, replicate, ⊤}
use Rattle.std.specs.List.{AllZip}
use Rattle.gate_log.specs.declared.logs.LogItem.{LogItem}
use Rattle.txn_records.specs.declared.records.Record.{Record}
use Rattle.record_log.specs.Records.{AreItemsOf}
use Rattle.snap_recover.specs.declared.causes.LogCause.{LogCause}
use Rattle.snap_recover.specs.declared.causes.LogCause.TheVariants as cause
use Rattle.log_compact.specs.declared.refusals.CheckpointNo.{CheckpointNo}
use Rattle.log_compact.specs.declared.refusals.CheckpointNo.TheVariants as checkpoint
use Rattle.log_compact.specs.declared.refusals.FoldNo.TheVariants as fold
use Rattle.log_compact.specs.Refusals.{IsNotFolded}
use Rattle.log_compact.specs.Sets.{HasNoStray, IsPointInRange, OfPoint, point_of}
use Rattle.log_opening.specs.Found.{IsNoDecoding}
use Rattle.log_opening.specs.declared.refusals.LogsNo.{LogsNo}
use Rattle.log_opening.specs.declared.refusals.LogsNo.TheVariants as ending
use Rattle.snap_follow.specs.declared.refusals.FollowNo.{FollowNo}
use Rattle.snap_follow.specs.declared.refusals.FollowNo.TheVariants as follow
use Rattle.snap_follow.specs.Refusals.{IsNotFollowed}
use Rattle.snap_follow.specs.Rounds.{Following, IsRound}

-- what a follower of so many logs knows before its first round
abbrev pub nothing_known : ℕ → Following
nothing_known count = record { before = replicate count []; members = []; states = None }

-- no checkpoint strays, and no number of it is too large
abbrev pub MayBeRead : List (List Record) → Type 0
MayBeRead lists = HasNoStray lists × OfPoint IsPointInRange (point_of lists)

-- The follower makes a round over each reading, in their order, and knows this then.
abbrev pub AreRounds : Following → List (List (List Record)) → Following → Type 0
AreRounds f [] known = known ≡ f
AreRounds f (lists ∷ readings) known = (next : Following) × MayBeRead lists × IsRound f lists next × AreRounds next readings known

-- ---- refusals

-- why the round over these lists is refused, where the round before read those, and the log in use that is named
abbrev pub IsRoundCause : (before lists : List (List Record)) → ℕ → LogCause → Type 0
IsRoundCause before lists log cause.NotALog = ⊥
IsRoundCause before lists log cause.Damage = ⊥
IsRoundCause before lists log cause.OldFormat = ⊥
IsRoundCause before lists log cause.BadRecord = ⊥
IsRoundCause before lists log cause.Stray = IsNotFolded lists (fold.Stray log)
IsRoundCause before lists log cause.Back = MayBeRead lists × IsNotFollowed before lists (follow.Back log)
IsRoundCause before lists log cause.NoGenesis = ⊥
IsRoundCause before lists log cause.TwoGenesis = (log ≡ 0) × MayBeRead lists × IsNotFollowed before lists follow.TwoGenesis
IsRoundCause before lists log (cause.LogCount kept found) = (log ≡ 0) × MayBeRead lists × IsNotFollowed before lists (follow.LogCount kept found)
IsRoundCause before lists log (cause.Range k) = IsNotFolded lists (fold.Range k log) ⊎ (MayBeRead lists × IsNotFollowed before lists (follow.Range k log))
IsRoundCause before lists log (cause.Missing k) = MayBeRead lists × IsNotFollowed before lists (follow.Missing k log)
IsRoundCause before lists log (cause.Values k kept found) = MayBeRead lists × IsNotFollowed before lists (follow.Values k log kept found)
IsRoundCause before lists log (cause.Spent number) = ⊥
IsRoundCause before lists log (cause.Differs what kept text) = ⊥

-- the log in use in which a checkpoint strays, and the first one where its numbers are too large
abbrev pub stray_log : CheckpointNo → ℕ
stray_log (checkpoint.Stray log) = log
stray_log checkpoint.Range = 0

-- the log in use that the answer names, and the first one where it names none
abbrev pub log_refused : FollowNo → ℕ
log_refused (follow.Back log) = log
log_refused follow.TwoGenesis = 0
log_refused (follow.LogCount kept found) = 0
log_refused (follow.Range k log) = log
log_refused (follow.Missing k log) = log
log_refused (follow.Values k log kept found) = log
log_refused follow.Memory = 0

-- why there is no round over the lists of the logs in use, the first of which lies on this device; the log is named by its device
abbrev pub IsNoRound : ℕ → (before lists : List (List Record)) → LogsNo → Type 0
IsNoRound head before lists (ending.Refused log offset c) = (offset ≡ 0) × ((number : ℕ) × (log ≡ head + number) × IsRoundCause before lists number c)
IsNoRound head before lists (ending.Device log) = ⊥
IsNoRound head before lists ending.Memory = ⊤

-- the same of the items of these logs: they are no records, or there is no round over the records that they are
abbrev pub IsRefusedReading : ℕ → List (List LogItem) → List (List Record) → LogsNo → Type 0
IsRefusedReading head found before answer = IsNoDecoding head found answer ⊎ ((lists : List (List Record)) × AllZip AreItemsOf found lists × IsNoRound head before lists answer)
