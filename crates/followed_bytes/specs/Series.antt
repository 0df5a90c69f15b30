-- Runs one behind the other on the same logs, each cut off by a crash; and a follower who looks at them, while no crash takes back what he read.
use Rattle.std.specs.Prelude.{◌≡◌, ℕ, ◌+◌, ◌<◌, ◌≤◌, Bool, false, ◌⊎◌, Option, Some, None, List, [], ◌∷◌, ◌++◌, length, map, Contains, ⊤}
use Rattle.std.specs.List.{AllByRecursion}
use Rattle.std.proofs.Common.{inl, inr}
use Rattle.aml_tree.specs.Tree.{CheckedMethod}
use Rattle.followed_logs.specs.OnRecords.{FollowRound, GoOnFollowing, HasReadNothing, IsRunsFront, in_first}
use Rattle.followed_meant.specs.AsMeant.{AllFollowMeant, cut_runs}
use Rattle.log_opening.specs.Devices.{Device, device_at}
use Rattle.machine_recovery.specs.OnLogs.{CutRunOf, as_cut_run}
use Rattle.protocol.specs.Events.{Event}
use Rattle.protocol.specs.Fixed as machine
use Rattle.protocol.specs.Moments.{IsLeft}
use Rattle.protocol_records.specs.SeveralRuns.{logs_left, opening_left}
use Rattle.record_log.specs.Records.{HoldsRecords}
use Rattle.recovery_laws.specs.Grown.{grown}
use Rattle.run_opening.specs.Opens.{records_at}
use Rattle.run_recovery.specs.Crashes.{earlier}
use Rattle.run_recovery.specs.OneRun.{TheRun, MomentOf, machine_in, the_run}
use Rattle.run_recovery.specs.Runs.{HasRunWork, text_of}
use Rattle.run_recovery.specs.Schedules.{Schedule}
use Rattle.snap_follow.specs.Refusals.{IsNotFollowed}
use Rattle.snap_follow.specs.Rounds.{Following, GrowFrom, IsRound, StartsWith}
use Rattle.snap_follow.specs.declared.refusals.FollowNo.{FollowNo}
use Rattle.snap_follow.specs.declared.refusals.FollowNo.TheVariants.{Memory}
use Rattle.snap_outside.specs.Disk.{DeviceHistory, content}
use Rattle.snap_recover.specs.declared.openings.Opening.{Opening}
use Rattle.snap_work.specs.Kept.{KeepsLimits}
use Rattle.snap_work.specs.Works.{Work}
use Rattle.txn_records.specs.declared.records.Record.{Record}
use Rattle.followed_bytes.specs.Readings.{IsShownAt}

-- ---- the runs

-- a run of a work that keeps its limits; the moment at which it was cut off, and how many of its records each log was left with
pub record CutRunOn : Type 0 where
  pub work : Work
  pub schedule : Schedule
  pub opening : Opening
  pub events : List Event
  pub failed : ℕ → Bool
  pub before : List Device
  pub after : List Device
  pub limits : KeepsLimits work
  pub run : HasRunWork work schedule opening events failed before after
  pub moment : MomentOf (the_run run)
  pub kept : ℕ → ℕ
  pub left : IsLeft (machine_in (the_run run)) events moment kept

abbrev pub run_of : CutRunOn → TheRun
run_of x = the_run x.run

-- the same as a run of the machine
abbrev pub cut_of : CutRunOn → CutRunOf
cut_of x = record { program = x.work.program; text = text_of x.work x.opening; events = x.events; moment = x.moment; kept = x.kept }

abbrev pub cuts_of : List CutRunOn → List CutRunOf
cuts_of xs = map cut_of xs

-- these records, and behind them those of the run that each log was left with
abbrev pub lists_behind : List (List Record) → CutRunOn → List (List Record)
lists_behind now x = grown now (logs_left (as_cut_run (cut_of x)))

-- Each is on so many logs, begins on the records with which the one before it left them, and from the opening to which these recover.
abbrev pub GoOnDevices : ℕ → List (List Record) → machine.Opening → List CutRunOn → Type 0
GoOnDevices many now o [] = ⊤
GoOnDevices many now o (x ∷ xs) =
    (x.work.logs ≡ many) × (earlier (run_of x) ≡ now) × ((text_of x.work x.opening).opening ≡ o)
    × GoOnDevices many (lists_behind now x) (opening_left (as_cut_run (cut_of x))) xs

-- the devices of its logs told that they held these records as it began
abbrev pub TellsLists : CutRunOn → List (List Record) → Type 0
TellsLists x lists =
    (l : ℕ) → l < x.work.logs
    → (h : DeviceHistory) × ((device_at x.before (x.run.devices.head + l)).told ≡ Some h) × HoldsRecords (content h) (records_at lists l)

-- the second begins on the records with which the first left the logs, and from the opening to which these recover
pub record IsNextOn (x y : CutRunOn) : Type 0 where
  pub lists : earlier (run_of y) ≡ lists_behind (earlier (run_of x)) x
  pub opening : (text_of y.work y.opening).opening ≡ opening_left (as_cut_run (cut_of x))

-- The runs are of works of these programs. As the first event of the first one came, the first log held Genesis, or Genesis and a checkpoint
-- that tells the states with which this run began, and the other logs held nothing.
pub record AreOnDevices (ps : List (List CheckedMethod)) (many : ℕ) (o : machine.Opening) (front : List Record) (xs : List CutRunOn) : Type 0 where
  pub programs : AllByRecursion (λ (x : CutRunOn). Contains ps x.work.program) xs
  pub some_actors : 1 ≤ length o.states
  pub some_logs : 1 ≤ many
  pub is_front : IsRunsFront many o.states front
  pub go_on : GoOnDevices many (in_first many front) o xs

-- ---- looks

-- The device of log l may show these bytes at a moment of this run, up to the one at which it was cut off; and of the records that they hold
-- the crash took back none.
pub record IsShownBy (x : CutRunOn) (l : ℕ) (bytes : List ℕ) : Type 0 where
  pub moment : MomentOf (run_of x)
  pub before_cut : (more : List Event) × (x.moment.events ≡ moment.events ++ more)
  pub shown : (lt : l < x.work.logs) → IsShownAt (run_of x) moment l lt bytes
  pub stays : l < x.work.logs → (rs : List Record) → HoldsRecords bytes rs → StartsWith (records_at (lists_behind (earlier (run_of x)) x) l) rs

-- at a moment of one of these runs
abbrev pub IsShownIn : List CutRunOn → ℕ → List ℕ → Type 0
IsShownIn [] l bytes = ⊥
IsShownIn (x ∷ xs) l bytes = IsShownBy x l bytes ⊎ IsShownIn xs l bytes

-- the second is at no earlier moment, nor in an earlier run
abbrev pub IsNoEarlierIn : (xs : List CutRunOn) (l i : ℕ) (a b : List ℕ) → IsShownIn xs l a → IsShownIn xs i b → Type 0
IsNoEarlierIn [] l i a b p q = ⊤
IsNoEarlierIn (x ∷ xs) l i a b (inl s) (inl t) = (more : List Event) × (t.moment.events ≡ s.moment.events ++ more)
IsNoEarlierIn (x ∷ xs) l i a b (inl s) (inr q) = ⊤
IsNoEarlierIn (x ∷ xs) l i a b (inr p) (inl t) = ⊥
IsNoEarlierIn (x ∷ xs) l i a b (inr p) (inr q) = IsNoEarlierIn xs l i a b p q

-- What the device of each log shows as he looks; the records that the bytes hold; and what he knows then.
pub record LookAt (many : ℕ) (xs : List CutRunOn) : Type 0 where
  pub bytes : ℕ → List ℕ
  pub shown : (l : ℕ) → IsShownIn xs l (bytes l)
  pub lists : List (List Record)
  pub as_many : length lists ≡ many
  pub held : (l : ℕ) → l < many → HoldsRecords (bytes l) (records_at lists l)
  pub known : Following

-- each log is looked at at no earlier moment than any in the look before
abbrev pub IsLaterLook : (many : ℕ) (xs : List CutRunOn) → Option (LookAt many xs) → LookAt many xs → Type 0
IsLaterLook many xs None y = ⊤
IsLaterLook many xs (Some x) y = (l i : ℕ) → IsNoEarlierIn xs l i (x.bytes l) (y.bytes i) (x.shown l) (y.shown i)

-- each look goes on from the one before it, by a round over the records that it found
abbrev pub GoOnLookingAt : (many : ℕ) (xs : List CutRunOn) → Following → Option (LookAt many xs) → List (LookAt many xs) → Type 0
GoOnLookingAt many xs f before [] = ⊤
GoOnLookingAt many xs f before (y ∷ ys) = (IsLaterLook many xs before y × IsRound f y.lists y.known) × GoOnLookingAt many xs y.known (Some y) ys

-- what he knows behind the looks, and the last of them
abbrev pub known_behind_all : (many : ℕ) (xs : List CutRunOn) → Following → List (LookAt many xs) → Following
known_behind_all many xs f [] = f
known_behind_all many xs f (y ∷ ys) = known_behind_all many xs y.known ys

abbrev pub look_behind_all : (many : ℕ) (xs : List CutRunOn) → Option (LookAt many xs) → List (LookAt many xs) → Option (LookAt many xs)
look_behind_all many xs before [] = before
look_behind_all many xs before (y ∷ ys) = look_behind_all many xs (Some y) ys

-- all that was there in the look before is there in this one
abbrev pub IsAllStillThere : (many : ℕ) (xs : List CutRunOn) → Option (LookAt many xs) → LookAt many xs → Type 0
IsAllStillThere many xs None y = ⊤
IsAllStillThere many xs (Some x) y = GrowFrom x.lists y.lists

-- ---- what they owe

-- The looks are rounds over findings of the machine's runs, with which he knows the same; and each of these rounds owes what a round of
-- runs of programs owes: its members are closed and serial, run behind run, they mean the results that they had, and the states that he
-- tells are those that they leave, as the language means each.
pub record AreMeantRounds (many : ℕ) (o : machine.Opening) (front : List Record) (xs : List CutRunOn) (f : Following) (ys : List (LookAt many xs)) : Type 0 where
  pub rounds : List (FollowRound (cut_runs (cuts_of xs)))
  pub same : map (λ z. z.known) rounds ≡ map (λ (y : LookAt many xs). y.known) ys
  pub go_on : GoOnFollowing many front (cut_runs (cuts_of xs)) f None rounds
  pub stand : AllFollowMeant many o (cuts_of xs) None (λ w. false) rounds

-- Whatever the devices of runs of these programs show at his looks, and when he looks.
abbrev pub LooksAtSeriesTellMeantStates : List (List CheckedMethod) → Type 0
LooksAtSeriesTellMeantStates ps =
    (many : ℕ) (o : machine.Opening) (front : List Record) (xs : List CutRunOn) (f : Following) (ys : List (LookAt many xs))
    → AreOnDevices ps many o front xs → HasReadNothing f → GoOnLookingAt many xs f None ys → AreMeantRounds many o front xs f ys

-- And whatever they show at the next one, its round is refused for want of memory alone.
abbrev pub LooksAtSeriesGoOn : List (List CheckedMethod) → Type 0
LooksAtSeriesGoOn ps =
    (many : ℕ) (o : machine.Opening) (front : List Record) (xs : List CutRunOn) (f : Following) (ys : List (LookAt many xs)) (next : LookAt many xs) (no : FollowNo)
    → AreOnDevices ps many o front xs → HasReadNothing f → GoOnLookingAt many xs f None ys
    → IsLaterLook many xs (look_behind_all many xs None ys) next → IsAllStillThere many xs (look_behind_all many xs None ys) next
    → IsNotFollowed (known_behind_all many xs f ys).before next.lists no → no ≡ Memory
