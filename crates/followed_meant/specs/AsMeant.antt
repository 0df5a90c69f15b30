-- A follower of the logs of several runs of checked programs: what it tells, as the language means it.
use Rattle.std.specs.Prelude.{◌≡◌, ℕ, ◌≤◌, Bool, true, false, Option, Some, None, List, [], ◌∷◌, length, map, ⊤}
use Rattle.std.specs.List.{AllByRecursion}
use Rattle.snap_base.specs.Outcomes.{Serial}
use Rattle.snap_base.specs.declared.transactions.State.{State}
use Rattle.aml_tree.specs.Tree.{CheckedMethod}
use Rattle.aml_check.specs.Meaning as meaning
use Rattle.aml_slice.specs.Controls.{Rest}
use Rattle.protocol.specs.Chains.{by_place, txs_of}
use Rattle.protocol.specs.Events.{Event}
use Rattle.protocol.specs.Facts.{serial}
use Rattle.protocol.specs.Fixed.{Opening, Text, tx_at}
use Rattle.protocol.specs.History.{Done, history}
use Rattle.protocol.specs.Parts.{Who}
use Rattle.protocol.specs.Runs.{IsRun}
use Rattle.protocol_records.specs.Crash.{is_in}
use Rattle.protocol_records.specs.SeveralRuns.{CutRun, opening_left}
use Rattle.followed_runs.specs.Following.{followed}
use Rattle.followed_runs.specs.FollowingRuns.{RunsReading, first_members, runs_read, tail_read}
use Rattle.followed_logs.specs.OnRecords.{Finding, FollowRound, FollowStands, GoOnFollowing, HasReadNothing, IsLaterFinding, IsRunsFront, found_last, known_then, lists_found}
use Rattle.machine_laws.specs.Programs.{IsTextOf, finish_of, with_code}
use Rattle.machine_recovery.specs.OnLogs.{CutRunOf, MayBeOf, as_cut_run}
use Rattle.snap_follow.specs.Refusals.{IsNotFollowed}
use Rattle.snap_follow.specs.Rounds.{Following}
use Rattle.snap_follow.specs.declared.refusals.FollowNo.{FollowNo}
use Rattle.snap_follow.specs.declared.refusals.FollowNo.TheVariants.{Memory}
use Rattle.txn_records.specs.declared.records.Record.{Record}

-- ---- transactions by their meaning

-- these, one after the other in the order of their places, from this world
abbrev pub meant_from : List CheckedMethod → Text → List State → List Done → Serial
meant_from p w world ds = meaning.serial p world (map (λ d. tx_at w d.tx) (by_place ds))

-- what the machine's code makes of them there is what the language means, and it leaves as many states
pub record AreMeant (p : List CheckedMethod) (w : Text) (world : List State) (ds : List Done) : Type 0 where
  pub same : serial (with_code p w).code (finish_of p w) world (txs_of (with_code p w) (by_place ds)) ≡ meant_from p w world ds
  pub as_many : length (meant_from p w world ds).world ≡ length world

-- so it is of every set of those that committed with a value, in every run of every text of the program, from any world
abbrev pub SetsAreMeant : List CheckedMethod → Type 0
SetsAreMeant p =
    (w : Text) (es : List Event) (members : Who → Bool) (world : List State)
    → IsTextOf p w → IsRun (with_code p w) es → length world ≡ length w.opening.states → AreMeant p w world (followed members (history (with_code p w) es))

-- ---- runs of programs, one behind the other

abbrev pub cut_runs : List CutRunOf → List (CutRun Rest)
cut_runs xs = map as_cut_run xs

-- each is of one of these programs, and begins from what the one before it left, the first from this opening
abbrev pub GoOnOf : List (List CheckedMethod) → Opening → List CutRunOf → Type 0
GoOnOf ps o [] = ⊤
GoOnOf ps o (x ∷ xs) = MayBeOf ps x × (x.text.opening ≡ o) × GoOnOf ps (opening_left (as_cut_run x)) xs

-- The same runs as on logs of any code; no premise on code is left, since it is the programs' own.
pub record AreOnLogsOf (ps : List (List CheckedMethod)) (many : ℕ) (o : Opening) (front : List Record) (xs : List CutRunOf) : Type 0 where
  pub some_actors : 1 ≤ length o.states
  pub some_logs : 1 ≤ many
  pub same_logs : AllByRecursion (λ (x : CutRunOf). x.text.logs ≡ many) xs
  pub go_on : GoOnOf ps o xs
  pub is_front : IsRunsFront many o.states front

-- ---- what every round owes

-- the members of the first run whose commits were read, one after the other, as the language means each
abbrev pub first_meant : ℕ → (x : CutRunOf) (xs : List CutRunOf) → RunsReading (cut_runs (x ∷ xs)) → (Who → Bool) → List State → Serial
first_meant many x xs r members world = meant_from x.program x.text world (first_members many (as_cut_run x) (cut_runs xs) r members)

-- Run by run, each from the states that the members of the runs before it left: the members mean the results that they had.
abbrev pub ResultsAreMeant : ℕ → (xs : List CutRunOf) → RunsReading (cut_runs xs) → (Who → Bool) → List State → Type 0
ResultsAreMeant many [] r members world = ⊤
ResultsAreMeant many (x ∷ xs) r members world =
    (map Some (first_meant many x xs r members world).results ≡ map (λ d. d.result) (by_place (first_members many (as_cut_run x) (cut_runs xs) r members)))
    × ResultsAreMeant many xs (tail_read (as_cut_run x) (cut_runs xs) r) members (first_meant many x xs r members world).world

-- the states that the members of all runs leave then
abbrev pub meant_behind : ℕ → (xs : List CutRunOf) → RunsReading (cut_runs xs) → (Who → Bool) → List State → List State
meant_behind many [] r members world = world
meant_behind many (x ∷ xs) r members world = meant_behind many xs (tail_read (as_cut_run x) (cut_runs xs) r) members (first_meant many x xs r members world).world

-- The commit of each member was read. The members mean the results that they had, run behind run; and once Genesis is there the follower
-- has the states that this leaves.
pub record FollowIsMeant (many : ℕ) (o : Opening) (xs : List CutRunOf) (y : FollowRound (cut_runs xs)) (members : Who → Bool) : Type 0 where
  pub read : (w : Who) → members w ≡ true → is_in many (runs_read (cut_runs xs) y.found.reading) w ≡ true
  pub results : ResultsAreMeant many xs y.found.reading members o.states
  pub states : y.found.is_begun ≡ true → y.known.states ≡ Some (meant_behind many xs y.found.reading members o.states)

abbrev pub AllFollowMeant : (many : ℕ) (o : Opening) (xs : List CutRunOf) → Option (Finding (cut_runs xs)) → (Who → Bool) → List (FollowRound (cut_runs xs)) → Type 0
AllFollowMeant many o xs before taken [] = ⊤
AllFollowMeant many o xs before taken (y ∷ ys) =
    (s : FollowStands many o (cut_runs xs) before taken y) × FollowIsMeant many o xs y s.members × AllFollowMeant many o xs (Some y.found) s.members ys

-- ---- laws

-- Whatever the rounds of a follower find of runs of these programs, and when, each owes this.
abbrev pub FollowersTellMeantStates : List (List CheckedMethod) → Type 0
FollowersTellMeantStates ps =
    (many : ℕ) (o : Opening) (front : List Record) (xs : List CutRunOf) (f : Following) (ys : List (FollowRound (cut_runs xs)))
    → AreOnLogsOf ps many o front xs → HasReadNothing f → GoOnFollowing many front (cut_runs xs) f None ys
    → AllFollowMeant many o xs None (λ y. false) ys

-- And whatever the next one finds, it is refused for want of memory alone.
abbrev pub FollowersGoOn : List (List CheckedMethod) → Type 0
FollowersGoOn ps =
    (many : ℕ) (o : Opening) (front : List Record) (xs : List CutRunOf) (f : Following) (ys : List (FollowRound (cut_runs xs))) (next : Finding (cut_runs xs)) (no : FollowNo)
    → AreOnLogsOf ps many o front xs → HasReadNothing f → GoOnFollowing many front (cut_runs xs) f None ys → IsLaterFinding (cut_runs xs) (found_last (cut_runs xs) None ys) next
    → IsNotFollowed (known_then (cut_runs xs) f ys).before (lists_found many front (cut_runs xs) next) no → no ≡ Memory
