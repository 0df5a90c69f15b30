-- Only private contracts cite this; the rules are specs/Rounds.antt and specs/Refusals.antt.
-- What a round finds.
use Rattle.std.specs.Prelude.{◌≡◌, ◌⊎◌, Option, Some, None, List, [], map}
use Rattle.snap_base.specs.declared.transactions.State.{State}
use Rattle.txn_records.specs.declared.records.Record.{Record}
use Rattle.snap_recover.specs.declared.openings.Kept.{Kept}
use Rattle.snap_recover.specs.Logs.{geneses}
use Rattle.snap_recover.specs.Opening.{AreBegunWith, AreStatesOf, commit_of}
use Rattle.log_compact.specs.Sets.{plain_lists}
use Rattle.snap_follow.specs.declared.commits.Commits.{Commits}
use Rattle.snap_follow.specs.declared.rounds.Found.{Found}
use Rattle.snap_follow.specs.Followed.{AreMembers, AreFollowedStates}
use Rattle.snap_follow.specs.Rounds.{AreInLists, GrowFrom, AreReadable, AreSeenWhole}
use Rattle.snap_follow.specs.Passes.{IsSettled, Settles, HasAllCommits, chosen_lists}

-- ---- in lists without a checkpoint

-- of the seen commits the set has all but those that rest on somebody who is left out
pub record IsSettledFrom (now : List (List Record)) (first : List State) (taken seen set : Commits) : Type 0 where
  pub there : Commits
  pub has : HasAllCommits now there
  pub settles : Settles first there taken now seen set
  pub settled : IsSettled first there taken now set

-- the states that are found are those that the commits of the set leave
abbrev pub LeavesStates : Commits → List (List Record) → List State → Option (List State) → Type 0
LeavesStates set now first found = (states : List State) × (found ≡ Some states) × AreStatesOf (chosen_lists set now) first states

-- ---- in lists with one

-- the states that the members left, where there is a Genesis
abbrev pub AreFoundStates : List (List Record) → List Kept → Option (List State) → Type 0
AreFoundStates now members found =
    ((geneses now ≡ []) × (found ≡ None))
    ⊎ ((first states : List State) × AreBegunWith now first × (found ≡ Some states) × AreFollowedStates (map commit_of members) now first states)

-- the states that were found, or the old ones where there are none
abbrev pub newer_states : Option (List State) → Option (List State) → Option (List State)
newer_states None old = old
newer_states (Some states) old = Some states

-- what a round over these lists finds, where the round before read those and these were the members
pub record IsFound (before : List (List Record)) (taken : List Kept) (lists : List (List Record)) (found : Found) : Type 0 where
  pub grow : GrowFrom before lists
  pub readable : AreReadable (plain_lists lists)
  pub whole : AreSeenWhole (plain_lists before) (plain_lists lists)
  pub members : AreMembers (map commit_of taken) (plain_lists before) (plain_lists lists) found.members
  pub states : AreFoundStates (plain_lists lists) found.members found.states
  pub are_in : AreInLists lists found.members
