-- Why a round is refused. The causes stand in the order in which they are asked.
use Rattle.std.specs.Prelude.{⊤, ℕ, ◌<◌, ◌⊎◌, List, length}
use Rattle.snap_base.specs.declared.ids.Bid.{Bid}
use Rattle.snap_base.specs.declared.ids.Tid.{Tid}
use Rattle.txn_records.specs.declared.records.Record.{Record}
use Rattle.txn_records.specs.declared.keys.Key.{Key}
use Rattle.snap_recover.specs.declared.refusals.RecoverNo.TheVariants as recovery
use Rattle.snap_recover.specs.Opening.{IsIn, IsActIn, IsBatchWhole, IsActWhole, HasItsValues}
use Rattle.snap_recover.specs.Refusals.{IsRefused, LacksInfo, LacksComplete, LacksPrepare, LacksValues}
use Rattle.log_compact.specs.Sets.{plain_lists}
use Rattle.snap_follow.specs.declared.refusals.FollowNo.{FollowNo}
use Rattle.snap_follow.specs.declared.refusals.FollowNo.TheVariants.{Back, TwoGenesis, LogCount, Range, Missing, Values, Memory}
use Rattle.snap_follow.specs.Rounds.{StartsWith, list_at, GrowFrom, AreReadable}

-- the first list that does not begin with that of the round before
pub record IsFirstBack (before lists : List (List Record)) (log : ℕ) : Type 0 where
  pub low : log < length lists
  pub is_back : ¬ StartsWith (list_at lists log) (list_at before log)
  pub lower : (l : ℕ) → l < log → StartsWith (list_at lists l) (list_at before l)

-- ---- what is lacking of those whose commits the round before read

-- of batches, by their numbers: the first key that this round's lists lack, and the log in which it should be
abbrev pub IsFirstSeenBatchLacking : (before now : List (List Record)) → Key → ℕ → Type 0
IsFirstSeenBatchLacking before now k log =
    (bid : Bid) × IsIn before bid × ((b : Bid) → b.0 < bid.0 → IsIn before b → IsBatchWhole now b)
    × (LacksInfo now bid k log ⊎ LacksComplete now bid k log)

-- of undeclared transactions, by their tids
abbrev pub IsFirstSeenActLacking : (before now : List (List Record)) → Key → ℕ → Type 0
IsFirstSeenActLacking before now k log =
    (tid : Tid) × IsActIn before tid × ((t : Tid) → t.0 < tid.0 → IsActIn before t → IsActWhole now t)
    × LacksPrepare now tid k log

abbrev pub AreSeenBatchesWhole : (before now : List (List Record)) → Type 0
AreSeenBatchesWhole before now = (bid : Bid) → IsIn before bid → IsBatchWhole now bid

-- that of an undeclared transaction only where nothing is lacking of the batches
abbrev pub IsFirstSeenLacking : (before now : List (List Record)) → Key → ℕ → Type 0
IsFirstSeenLacking before now k log =
    IsFirstSeenBatchLacking before now k log ⊎ (AreSeenBatchesWhole before now × IsFirstSeenActLacking before now k log)

abbrev pub IsNoneMissing : (before now : List (List Record)) → Type 0
IsNoneMissing before now = AreSeenBatchesWhole before now × ((tid : Tid) → IsActIn before tid → IsActWhole now tid)

-- the first batch whose commit tells values, and not one for each of its transactions, by the numbers
abbrev pub IsFirstSeenLackingValues : (before now : List (List Record)) → Key → ℕ → ℕ → ℕ → Type 0
IsFirstSeenLackingValues before now k log count found =
    (bid : Bid) × IsIn before bid × ((b : Bid) → b.0 < bid.0 → IsIn before b → HasItsValues now b)
    × LacksValues now bid k log count found

-- ---- the whole

-- A round over these lists is refused with this answer, where the round before read those. Memory says nothing of the lists.
abbrev pub IsNotFollowed : (before lists : List (List Record)) → FollowNo → Type 0
IsNotFollowed before lists (Back log) = IsFirstBack before lists log
IsNotFollowed before lists TwoGenesis = GrowFrom before lists × IsRefused (plain_lists lists) recovery.TwoGenesis
IsNotFollowed before lists (LogCount count found) = GrowFrom before lists × IsRefused (plain_lists lists) (recovery.LogCount count found)
IsNotFollowed before lists (Range k log) = GrowFrom before lists × IsRefused (plain_lists lists) (recovery.Range k log)
IsNotFollowed before lists (Missing k log) =
    GrowFrom before lists × AreReadable (plain_lists lists) × IsFirstSeenLacking (plain_lists before) (plain_lists lists) k log
IsNotFollowed before lists (Values k log count found) =
    GrowFrom before lists × AreReadable (plain_lists lists) × IsNoneMissing (plain_lists before) (plain_lists lists)
    × IsFirstSeenLackingValues (plain_lists before) (plain_lists lists) k log count found
IsNotFollowed before lists Memory = ⊤
