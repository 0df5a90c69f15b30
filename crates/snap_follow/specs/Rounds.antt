-- What a follower knows, and what a round makes of it. Lists may hold a checkpoint in second place of the first one, behind Genesis: a round
-- then goes by the lists in which Genesis has the checkpoint's states and the checkpoint is left out.
use Rattle.std.specs.Prelude.{◌≡◌, ℕ, ◌<◌, ◌≤◌, ◌⊎◌, Option, Some, List, [], ◌++◌, length, map, slice_index_or, Contains}
use Rattle.snap_base.specs.declared.ids.Bid.{Bid}
use Rattle.snap_base.specs.declared.ids.Tid.{Tid}
use Rattle.snap_base.specs.declared.transactions.State.{State}
use Rattle.txn_records.specs.declared.records.Record.{Record}
use Rattle.txn_records.specs.declared.keys.Key.{Key}
use Rattle.snap_recover.specs.declared.openings.Kept.{Kept}
use Rattle.snap_recover.specs.Logs.{geneses}
use Rattle.snap_recover.specs.Opening.{IsIn, IsActIn, IsBatchWhole, IsActWhole, HasItsValues, AreBegunWith, commit_of}
use Rattle.log_compact.specs.Sets.{plain_lists}
use Rattle.snap_follow.specs.Followed.{HasCommit, AreMembers, AreFollowedStates}

-- What a follower knows: the lists of its last round, the members, in the order of their places, and the states that these left; no states
-- where no round read a Genesis yet.
pub record Following : Type 0 where
  pub before : List (List Record)
  pub members : List Kept
  pub states : Option (List State)

-- the keys of the members' commits
abbrev pub taken_by : Following → List Key
taken_by f = map commit_of f.members

-- each member's commit stands in the lists
abbrev pub AreInLists : List (List Record) → List Kept → Type 0
AreInLists lists members = (k : Key) → Contains (map commit_of members) k → HasCommit lists k

-- What holds of every follower: it follows one to four logs, and its members' commits stand in the lists of its last round.
pub record IsFollower (before : List (List Record)) (members : List Kept) : Type 0 where
  pub some : 1 ≤ length before
  pub few : length before ≤ 4
  pub are_in : AreInLists before members

-- ---- what a round reads

-- the records begin with these
abbrev pub StartsWith : List Record → List Record → Type 0
StartsWith rs front = (rest : List Record) × (rs ≡ front ++ rest)

abbrev pub list_at : List (List Record) → ℕ → List Record
list_at lists log = slice_index_or lists log []

-- each list begins with that of the round before
abbrev pub GrowFrom : List (List Record) → List (List Record) → Type 0
GrowFrom before lists = (log : ℕ) → log < length lists → StartsWith (list_at lists log) (list_at before log)

-- no Genesis is there yet; or there is one, and it tells how many lists there are, and all records are in range
abbrev pub AreReadable : List (List Record) → Type 0
AreReadable lists = (geneses lists ≡ []) ⊎ ((first : List State) × AreBegunWith lists first)

-- nothing is lacking, in this round's lists, of what the round before read the commits of
pub record AreSeenWhole (before now : List (List Record)) : Type 0 where
  pub batches : (bid : Bid) → IsIn before bid → IsBatchWhole now bid
  pub acts : (tid : Tid) → IsActIn before tid → IsActWhole now tid
  pub valued : (bid : Bid) → IsIn before bid → HasItsValues now bid

-- ---- what it gives

-- Where there is a Genesis the states are those that the members left; where there is none yet they are as they were.
abbrev pub HasStates : List (List Record) → List Kept → Option (List State) → Option (List State) → Type 0
HasStates now members old new =
    ((geneses now ≡ []) × (new ≡ old))
    ⊎ ((first states : List State) × AreBegunWith now first × (new ≡ Some states) × AreFollowedStates (map commit_of members) now first states)

-- The follower f reads these lists, and knows g then.
pub record IsRound (f : Following) (lists : List (List Record)) (g : Following) : Type 0 where
  pub grow : GrowFrom f.before lists
  pub readable : AreReadable (plain_lists lists)
  pub whole : AreSeenWhole (plain_lists f.before) (plain_lists lists)
  pub before : g.before ≡ lists
  pub members : AreMembers (taken_by f) (plain_lists f.before) (plain_lists lists) g.members
  pub states : HasStates (plain_lists lists) g.members f.states g.states
