-- What holds of rounds over any lists. A law of `src/laws.rt` says each of these.
use Rattle.std.specs.Prelude.{◌≡◌, ◌≢◌, List, map, Contains}
use Rattle.snap_base.specs.declared.transactions.State.{State}
use Rattle.txn_records.specs.declared.records.Record.{Record}
use Rattle.txn_records.specs.declared.keys.Key.{Key}
use Rattle.snap_recover.specs.declared.openings.Kept.{Kept}
use Rattle.snap_recover.specs.Opening.{IsCommitted, AreStatesOf, commit_of}
use Rattle.log_compact.specs.Sets.{plain_lists}
use Rattle.snap_follow.specs.declared.refusals.FollowNo.{FollowNo}
use Rattle.snap_follow.specs.declared.refusals.FollowNo.TheVariants.{Memory}
use Rattle.snap_follow.specs.Followed.{HasCommit, TakesMost, AreMembers, AreFollowedStates}
use Rattle.snap_follow.specs.Refusals.{IsNotFollowed}
use Rattle.snap_follow.specs.Rounds.{Following, GrowFrom, AreReadable, AreSeenWhole, IsRound}

-- ---- whom a round takes

-- Of two sets that a round takes each has the members of the other.
abbrev pub OneTaking : Type 0
OneTaking =
    (taken : List Key) (before now : List (List Record)) (xs ys : List Key) → TakesMost taken before now xs → TakesMost taken before now ys
    → (k : Key) → (Contains xs k → Contains ys k) × (Contains ys k → Contains xs k)

-- There is always one.
abbrev pub SomeTaking : Type 0
SomeTaking = (taken : List Key) (before now : List (List Record)) → (members : List Key) × TakesMost taken before now members

-- Where a round reads what the round before read, and all that was taken is there, it takes just those that are in.
abbrev pub TwoRoundsTakeAll : Type 0
TwoRoundsTakeAll =
    (taken : List Key) (now : List (List Record)) (members : List Key) → ((k : Key) → Contains taken k → HasCommit now k) → TakesMost taken now now members
    → (k : Key) → (Contains members k → HasCommit now k) × (HasCommit now k → Contains members k)

-- The members and the states are those to which the lists recover then.
abbrev pub TwoRoundsRecover : Type 0
TwoRoundsRecover =
    (taken : List Key) (now : List (List Record)) (first : List State) (members : List Kept) (states : List State)
    → ((k : Key) → Contains taken k → HasCommit now k) → AreMembers taken now now members → AreFollowedStates (map commit_of members) now first states
    → IsCommitted now members × AreStatesOf now first states

-- ---- one answer

-- a round gives one follower
abbrev pub OneRound : Type 0
OneRound = (f : Following) (lists : List (List Record)) (g h : Following) → IsRound f lists g → IsRound f lists h → g ≡ h

-- it is refused with one answer at most, want of memory aside
abbrev pub OneRoundRefusal : Type 0
OneRoundRefusal = (before lists : List (List Record)) (x y : FollowNo) → x ≢ Memory → y ≢ Memory → IsNotFollowed before lists x → IsNotFollowed before lists y → x ≡ y

-- and then it gives nothing
abbrev pub RefusedAreNoRounds : Type 0
RefusedAreNoRounds = (f : Following) (lists : List (List Record)) (no : FollowNo) (g : Following) → no ≢ Memory → IsNotFollowed f.before lists no → ¬ IsRound f lists g

-- Where the lists begin with those of the round before, are readable, and lack nothing of what that round read the commits of, a round
-- is refused for want of memory alone.
abbrev pub RefusedForMemoryAlone : Type 0
RefusedForMemoryAlone =
    (before lists : List (List Record)) (no : FollowNo) → GrowFrom before lists → AreReadable (plain_lists lists) → AreSeenWhole (plain_lists before) (plain_lists lists)
    → IsNotFollowed before lists no → no ≡ Memory
