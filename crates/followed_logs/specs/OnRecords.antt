-- A follower of the logs of several runs, over the records as they are written.
use Rattle.std.specs.Prelude.{◌≡◌, ℕ, ◌-◌, ◌<◌, ◌≤◌, Bool, true, false, if◌then◌else◌, Option, Some, None, List, [], ◌∷◌, length, replicate, Contains, ⊤}
use Rattle.std.specs.List.{AllByRecursion}
use Rattle.snap_base.specs.declared.transactions.State.{State}
use Rattle.protocol.specs.Fixed.{Opening}
use Rattle.protocol.specs.Facts.{state_in}
use Rattle.protocol.specs.Parts.{Who, OfBatch, OfAct}
use Rattle.protocol_records.specs.SeveralRuns.{CutRun, GoOn}
use Rattle.followed_runs.specs.FollowingRuns.{RunsReading, runs_read, runs_before, IsLaterThanRead, world_behind, RunsRoundStands}
use Rattle.txn_records.specs.declared.records.Record.{Record}
use Rattle.txn_records.specs.declared.records.Record.TheVariants.{Genesis}
use Rattle.txn_records.specs.declared.keys.Key.{Key}
use Rattle.txn_records.specs.declared.keys.Key.TheVariants as keys
use Rattle.log_set.specs.Told.{bid_of, tid_of}
use Rattle.recovery_laws.specs.Grown.{grown}
use Rattle.log_compact.specs.Sets.{plain_lists, point_in, without_point}
use Rattle.snap_follow.specs.declared.refusals.FollowNo.{FollowNo}
use Rattle.snap_follow.specs.declared.refusals.FollowNo.TheVariants.{Memory}
use Rattle.snap_follow.specs.Followed.{HasCommit}
use Rattle.snap_follow.specs.Refusals.{IsNotFollowed}
use Rattle.snap_follow.specs.Rounds.{Following, taken_by, IsRound}

-- the key of its commit
abbrev pub key_of : Who → Key
key_of (OfBatch k) = keys.Commit (bid_of k)
key_of (OfAct t) = keys.Act (tid_of t)

-- ---- what stands on the devices

-- In front of the runs' records the first log has Genesis with these states, or Genesis and a checkpoint that tells them.
abbrev pub IsRunsFront : (many : ℕ) (first : List State) (front : List Record) → Type 0
IsRunsFront many first front = without_point front (point_in front) ≡ Genesis many first ∷ []

-- so many logs, of which the first has these records and the others have none
abbrev pub in_first : ℕ → List Record → List (List Record)
in_first many rs = rs ∷ replicate (many - 1) []

-- Runs one behind the other, on so many logs; the first run begins with this opening, and the first log with these records.
pub record AreOnLogs {C : Type 0} (many : ℕ) (o : Opening) (front : List Record) (xs : List (CutRun C)) : Type 0 where
  pub some_actors : 1 ≤ length o.states
  pub some_logs : 1 ≤ many
  pub same_logs : AllByRecursion (λ x. x.fixed.text.logs ≡ many) xs
  pub go_on : GoOn o xs
  pub is_front : IsRunsFront many o.states front

-- What a round finds there: what is read of each log of the runs, behind the records in front; where these are not there yet, nothing
-- is in the first log.
pub record Finding {C : Type 0} (xs : List (CutRun C)) : Type 0 where
  pub reading : RunsReading xs
  pub is_begun : Bool
  pub bare : is_begun ≡ false → runs_read xs reading 0 ≡ []

abbrev pub lists_found : {C : Type 0} (many : ℕ) (front : List Record) (xs : List (CutRun C)) → Finding xs → List (List Record)
lists_found many front xs x = grown (in_first many (if x.is_begun then front else [])) (runs_read xs x.reading)

-- what the round before found: before the first one nothing
abbrev pub reading_of : {C : Type 0} (xs : List (CutRun C)) → Option (Finding xs) → Option (RunsReading xs)
reading_of xs None = None
reading_of xs (Some x) = Some x.reading

abbrev pub was_begun : {C : Type 0} (xs : List (CutRun C)) → Option (Finding xs) → Bool
was_begun xs None = false
was_begun xs (Some x) = x.is_begun

-- Each log is read at no earlier moment than any of the round before, and nothing that was read is lost.
pub record IsLaterFinding {C : Type 0} (xs : List (CutRun C)) (o : Option (Finding xs)) (x : Finding xs) : Type 0 where
  pub later : IsLaterThanRead xs (reading_of xs o) x.reading
  pub still_begun : was_begun xs o ≡ true → x.is_begun ≡ true

-- ---- rounds

-- what a round finds, and what the follower knows then
pub record FollowRound {C : Type 0} (xs : List (CutRun C)) : Type 0 where
  pub found : Finding xs
  pub known : Following

-- a follower that has read nothing yet
pub record HasReadNothing (f : Following) : Type 0 where
  pub nothing : AllByRecursion (λ rs. rs ≡ []) f.before
  pub nobody : f.members ≡ []

-- each round goes on from the one before it
abbrev pub GoOnFollowing : {C : Type 0} (many : ℕ) (front : List Record) (xs : List (CutRun C)) → Following → Option (Finding xs) → List (FollowRound xs) → Type 0
GoOnFollowing many front xs f o [] = ⊤
GoOnFollowing many front xs f o (y ∷ ys) =
    (IsLaterFinding xs o y.found × IsRound f (lists_found many front xs y.found) y.known) × GoOnFollowing many front xs y.known (Some y.found) ys

-- what the follower knows behind the rounds, and what the last one found
abbrev pub known_then : {C : Type 0} (xs : List (CutRun C)) → Following → List (FollowRound xs) → Following
known_then xs f [] = f
known_then xs f (y ∷ ys) = known_then xs y.known ys

abbrev pub found_last : {C : Type 0} (xs : List (CutRun C)) → Option (Finding xs) → List (FollowRound xs) → Option (Finding xs)
found_last xs o [] = o
found_last xs o (y ∷ ys) = found_last xs (Some y.found) ys

-- ---- what every round owes

-- the follower has the states that these members leave
abbrev pub HasTheirStates : {C : Type 0} (many : ℕ) (o : Opening) (xs : List (CutRun C)) → FollowRound xs → (Who → Bool) → Type 0
HasTheirStates many o xs y members =
    (states : List State) × (y.known.states ≡ Some states) × (length states ≡ length o.states)
    × ((a : ℕ) → a < length o.states → state_in states a ≡ state_in (world_behind many xs y.found.reading members o.states) a)

-- Its members are closed and serial, run behind run; nobody is lost, and nothing is missing; and once Genesis is there its states are those
-- that they leave.
pub record FollowStands {C : Type 0} (many : ℕ) (o : Opening) (xs : List (CutRun C)) (before : Option (Finding xs)) (taken : Who → Bool) (y : FollowRound xs) : Type 0 where
  pub members : Who → Bool
  pub held : (w : Who) → members w ≡ true → Contains (taken_by y.known) (key_of w)
  pub of_all : (w : Who) → Contains (taken_by y.known) (key_of w) → members w ≡ true
  pub stands : RunsRoundStands many o xs taken (runs_before xs (reading_of xs before)) y.found.reading members
  pub states : y.found.is_begun ≡ true → HasTheirStates many o xs y members

abbrev pub AllFollowStand : {C : Type 0} (many : ℕ) (o : Opening) (xs : List (CutRun C)) → Option (Finding xs) → (Who → Bool) → List (FollowRound xs) → Type 0
AllFollowStand many o xs before taken [] = ⊤
AllFollowStand many o xs before taken (y ∷ ys) = (s : FollowStands many o xs before taken y) × AllFollowStand many o xs (Some y.found) s.members ys

-- ---- what two calls owe

-- A commit that was found before a call is taken by its second round, where this one finds Genesis.
abbrev pub FollowersShowWhatWasFound : Type 0 → Type 0
FollowersShowWhatWasFound C =
    (many : ℕ) (o : Opening) (front : List Record) (xs : List (CutRun C)) (f : Following) (earlier : Finding xs) (x y : FollowRound xs)
    → AreOnLogs many o front xs → HasReadNothing f → GoOnFollowing many front xs f (Some earlier) (x ∷ y ∷ []) → y.found.is_begun ≡ true
    → (k : Key) → HasCommit (plain_lists (lists_found many front xs earlier)) k → Contains (taken_by y.known) k

-- Of two calls, each reading of the second no earlier than any of the first, and the second round of the second finding Genesis: nothing
-- that the first took is missing in the second.
abbrev pub FollowersKnowMoreLater : Type 0 → Type 0
FollowersKnowMoreLater C =
    (many : ℕ) (o : Opening) (front : List Record) (xs : List (CutRun C)) (f g : Following) (ys : List (FollowRound xs)) (x y : FollowRound xs) (zs : List (FollowRound xs))
    → AreOnLogs many o front xs → HasReadNothing f → HasReadNothing g → GoOnFollowing many front xs f None ys
    → GoOnFollowing many front xs g (found_last xs None ys) (x ∷ y ∷ zs) → y.found.is_begun ≡ true
    → (k : Key) → Contains (taken_by (known_then xs f ys)) k → Contains (taken_by (known_then xs g (x ∷ y ∷ zs))) k

-- ---- laws

-- Whatever the rounds of a follower find, and when, each owes this.
abbrev pub FollowersTellSerialStates : Type 0 → Type 0
FollowersTellSerialStates C =
    (many : ℕ) (o : Opening) (front : List Record) (xs : List (CutRun C)) (f : Following) (ys : List (FollowRound xs))
    → AreOnLogs many o front xs → HasReadNothing f → GoOnFollowing many front xs f None ys
    → AllFollowStand many o xs None (λ y. false) ys

-- And whatever the next one finds, it is refused for want of memory alone.
abbrev pub FollowersAreNotRefused : Type 0 → Type 0
FollowersAreNotRefused C =
    (many : ℕ) (o : Opening) (front : List Record) (xs : List (CutRun C)) (f : Following) (ys : List (FollowRound xs)) (next : Finding xs) (no : FollowNo)
    → AreOnLogs many o front xs → HasReadNothing f → GoOnFollowing many front xs f None ys → IsLaterFinding xs (found_last xs None ys) next
    → IsNotFollowed (known_then xs f ys).before (lists_found many front xs next) no → no ≡ Memory
