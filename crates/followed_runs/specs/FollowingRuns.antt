-- A follower of the logs of several runs, one behind the other, with no crash that takes back what was read.
use Rattle.std.specs.Prelude.{◌≡◌, ℕ, ◌≤◌, ◌<◌, ◌%◌, Bool, true, false, ◌&&◌, ◌⊎◌, Option, Some, None, List, [], ◌∷◌, ◌++◌, length, map, take, ⊤}
use Rattle.std.specs.List.{AllByRecursion}
use Rattle.std.proofs.Common.{inl, inr}
use Rattle.snap_base.specs.declared.transactions.State.{State}
use Rattle.protocol.specs.Fixed.{Opening}
use Rattle.protocol.specs.Facts.{Serial, state_in, serial}
use Rattle.protocol.specs.Records.{LogRecord}
use Rattle.protocol.specs.Parts.{Who, OfBatch, OfAct}
use Rattle.protocol.specs.Events.{Event}
use Rattle.protocol.specs.Words.{count}
use Rattle.protocol.specs.Effects.{log_at}
use Rattle.protocol.specs.Runs.{reached}
use Rattle.protocol.specs.History.{Done, history}
use Rattle.protocol.specs.Chains.{by_place, txs_of}
use Rattle.protocol_records.specs.Telling.{told_states, names}
use Rattle.protocol_records.specs.Crash.{is_in, HasMember, BatchIsWhole, ActIsWhole}
use Rattle.protocol_records.specs.RecordLaws.{RecordKey, has_key}
use Rattle.protocol_records.specs.SeveralRuns.{CutRun, GoOn, logs_left}
use Rattle.followed_runs.specs.Following.{Changes, MayTake, TakesMost, followed, followed_state, IsClosedByChange}

-- ---- readings

-- Where a log is read in a run: the events so far, and how many of its records are there, of which no crash took any back.
pub record Spot {C : Type 0} (x : CutRun C) (l : ℕ) : Type 0 where
  pub events : List Event
  pub later : List Event
  pub splits : x.moment.events ≡ events ++ later
  pub count : ℕ
  pub all_synced : (log_at (reached x.fixed events) l).synced ≤ count
  pub no_more : count ≤ length (log_at (reached x.fixed events) l).records
  pub stays : count ≤ x.kept l

-- Of these runs: nothing is read, or some of the first one, or all that it left and perhaps some of later ones.
abbrev pub Where : {C : Type 0} → List (CutRun C) → ℕ → Type 0
Where [] l = ⊤
Where (x ∷ xs) l = Option (Spot x l ⊎ Where xs l)

abbrev pub nothing : {C : Type 0} (xs : List (CutRun C)) (l : ℕ) → Where xs l
nothing [] l = tt
nothing (x ∷ xs) l = None

-- what is read of the first run, and where it is read in the others
abbrev pub head_at : {C : Type 0} (x : CutRun C) (xs : List (CutRun C)) (l : ℕ) → Where (x ∷ xs) l → List LogRecord
head_at x xs l None = []
head_at x xs l (Some (inl s)) = take s.count (log_at (reached x.fixed s.events) l).records
head_at x xs l (Some (inr p)) = logs_left x l

abbrev pub tail_at : {C : Type 0} (x : CutRun C) (xs : List (CutRun C)) (l : ℕ) → Where (x ∷ xs) l → Where xs l
tail_at x xs l None = nothing xs l
tail_at x xs l (Some (inl s)) = nothing xs l
tail_at x xs l (Some (inr p)) = p

abbrev pub read_at : {C : Type 0} (xs : List (CutRun C)) (l : ℕ) → Where xs l → List LogRecord
read_at [] l p = []
read_at (x ∷ xs) l p = head_at x xs l p ++ read_at xs l (tail_at x xs l p)

-- the second is at no earlier moment
abbrev pub IsNoEarlier : {C : Type 0} (xs : List (CutRun C)) (l i : ℕ) → Where xs l → Where xs i → Type 0
IsNoEarlier [] l i p q = ⊤
IsNoEarlier (x ∷ xs) l i None q = ⊤
IsNoEarlier (x ∷ xs) l i (Some p) None = ⊥
IsNoEarlier (x ∷ xs) l i (Some (inl s)) (Some (inl t)) = (more : List Event) × (t.events ≡ s.events ++ more)
IsNoEarlier (x ∷ xs) l i (Some (inl s)) (Some (inr q)) = ⊤
IsNoEarlier (x ∷ xs) l i (Some (inr p)) (Some (inl t)) = ⊥
IsNoEarlier (x ∷ xs) l i (Some (inr p)) (Some (inr q)) = IsNoEarlier xs l i p q

-- what was read of the log is still there
abbrev pub IsStill : {C : Type 0} (xs : List (CutRun C)) (l : ℕ) → Where xs l → Where xs l → Type 0
IsStill [] l p q = ⊤
IsStill (x ∷ xs) l None q = ⊤
IsStill (x ∷ xs) l (Some p) None = ⊥
IsStill (x ∷ xs) l (Some (inl s)) (Some (inl t)) = s.count ≤ t.count
IsStill (x ∷ xs) l (Some (inl s)) (Some (inr q)) = ⊤
IsStill (x ∷ xs) l (Some (inr p)) (Some (inl t)) = ⊥
IsStill (x ∷ xs) l (Some (inr p)) (Some (inr q)) = IsStill xs l p q

abbrev pub RunsReading : {C : Type 0} → List (CutRun C) → Type 0
RunsReading xs = (l : ℕ) → Where xs l

abbrev pub head_read : {C : Type 0} (x : CutRun C) (xs : List (CutRun C)) → RunsReading (x ∷ xs) → ℕ → List LogRecord
head_read x xs r l = head_at x xs l (r l)

abbrev pub tail_read : {C : Type 0} (x : CutRun C) (xs : List (CutRun C)) → RunsReading (x ∷ xs) → RunsReading xs
tail_read x xs r l = tail_at x xs l (r l)

abbrev pub runs_read : {C : Type 0} (xs : List (CutRun C)) → RunsReading xs → ℕ → List LogRecord
runs_read xs r l = read_at xs l (r l)

-- Each log is read at no earlier moment than any of the round before, and no crash took back what was read of it.
pub record IsLaterRead {C : Type 0} (xs : List (CutRun C)) (r q : RunsReading xs) : Type 0 where
  pub moments : (l i : ℕ) → IsNoEarlier xs l i (r l) (q i)
  pub still : (l : ℕ) → IsStill xs l (r l) (q l)

-- ---- rounds

pub record RunsRound {C : Type 0} (xs : List (CutRun C)) : Type 0 where
  pub reading : RunsReading xs
  pub members : Who → Bool

abbrev pub runs_before : {C : Type 0} (xs : List (CutRun C)) → Option (RunsReading xs) → ℕ → List LogRecord
runs_before xs None l = []
runs_before xs (Some r) l = runs_read xs r l

abbrev pub IsLaterThanRead : {C : Type 0} (xs : List (CutRun C)) → Option (RunsReading xs) → RunsReading xs → Type 0
IsLaterThanRead xs None q = ⊤
IsLaterThanRead xs (Some r) q = IsLaterRead xs r q

abbrev pub GoOnRunsRounds : {C : Type 0} → ℕ → (ℕ → State) → (xs : List (CutRun C)) → Option (RunsReading xs) → (Who → Bool) → List (RunsRound xs) → Type 0
GoOnRunsRounds many first xs o taken [] = ⊤
GoOnRunsRounds many first xs o taken (y ∷ ys) =
    (IsLaterThanRead xs o y.reading × MayTake many first taken (runs_before xs o) (runs_read xs y.reading) y.members)
    × GoOnRunsRounds many first xs (Some y.reading) y.members ys

-- ---- what every round owes

-- the members whose commit records are among these
abbrev pub members_among : ℕ → (ℕ → List LogRecord) → (Who → Bool) → Who → Bool
members_among many logs members y = members y && is_in many logs y

-- the transactions of the first run that are members
abbrev pub first_members : {C : Type 0} → ℕ → (x : CutRun C) (xs : List (CutRun C)) → RunsReading (x ∷ xs) → (Who → Bool) → List Done
first_members many x xs r members = followed (members_among many (head_read x xs r) members) (history x.fixed x.moment.events)

abbrev pub run_from : {C : Type 0} → CutRun C → List State → List Done → Serial
run_from x world ds = serial x.fixed.code x.finish world (txs_of x.fixed (by_place ds))

-- Run by run, one behind the other: with each member all that committed with a value, and that the run places before it on an actor that
-- it or its batch changed; one after the other in the order of places the members of the run give their results, from the states that
-- those of the runs before left.
abbrev pub RunsFollowed : {C : Type 0} → ℕ → (xs : List (CutRun C)) → RunsReading xs → (Who → Bool) → List State → Type 0
RunsFollowed many [] r members world = ⊤
RunsFollowed many (x ∷ xs) r members world =
    (IsClosedByChange (λ t. HasMember t (first_members many x xs r members)) (history x.fixed x.moment.events)
    × (map Some (run_from x world (first_members many x xs r members)).results ≡ map (λ d. d.result) (by_place (first_members many x xs r members))))
    × RunsFollowed many xs (tail_read x xs r) members (run_from x world (first_members many x xs r members)).world

-- the states that the members of all runs leave
abbrev pub world_behind : {C : Type 0} → ℕ → (xs : List (CutRun C)) → RunsReading xs → (Who → Bool) → List State → List State
world_behind many [] r members world = world
world_behind many (x ∷ xs) r members world = world_behind many xs (tail_read x xs r) members (run_from x world (first_members many x xs r members)).world

-- With a member of a later run all of the first run that is left and changed one of its actors: its record of this actor tells another
-- state than the last one before it of those that are left, or the first one.
pub record IsCrossed {C : Type 0} (many : ℕ) (x : CutRun C) (xs : List (CutRun C)) (r : RunsReading (x ∷ xs)) (members : Who → Bool) : Type 0 where
  pub over : (y : Who) → members y ≡ true → is_in many (runs_read xs (tail_read x xs r)) y ≡ true → (l : ℕ) → head_read x xs r l ≡ logs_left x l
  pub taken : (a : ℕ) (y z : Who) → members y ≡ true → is_in many (runs_read xs (tail_read x xs r)) y ≡ true → names y (told_states a (runs_read xs (tail_read x xs r) (a % many))) ≡ true
      → is_in many (logs_left x) z ≡ true → Changes (is_in many (logs_left x)) (state_in x.fixed.text.opening.states a) z (told_states a (logs_left x (a % many))) → members z ≡ true

abbrev pub AllCrossed : {C : Type 0} → ℕ → (xs : List (CutRun C)) → RunsReading xs → (Who → Bool) → Type 0
AllCrossed many [] r members = ⊤
AllCrossed many (x ∷ xs) r members = IsCrossed many x xs r members × AllCrossed many xs (tail_read x xs r) members

pub record RunsRoundStands {C : Type 0} (many : ℕ) (o : Opening) (xs : List (CutRun C)) (taken : Who → Bool) (before : ℕ → List LogRecord) (r : RunsReading xs) (members : Who → Bool) : Type 0 where
  -- who was taken stays
  pub none_lost : (y : Who) → taken y ≡ true → members y ≡ true
  -- closed in each run, and serial from run to run
  pub runs : RunsFollowed many xs r members o.states
  -- closed from run to run
  pub crossed : AllCrossed many xs r members
  pub states : (a : ℕ) → a < length o.states → followed_state many members (runs_read xs r) a (state_in o.states a) ≡ state_in (world_behind many xs r members o.states) a
  -- no list lacks what it had, and nothing is missing of those whose commit records the round before read
  pub no_less : (l : ℕ) → (more : List LogRecord) × (runs_read xs r l ≡ before l ++ more)
  pub whole_batches : (k : ℕ) → is_in many before (OfBatch k) ≡ true → BatchIsWhole many (runs_read xs r) k
  pub whole_acts : (t : ℕ) → is_in many before (OfAct t) ≡ true → ActIsWhole many (runs_read xs r) t

abbrev pub AllRunsRoundsStand : {C : Type 0} → ℕ → Opening → (xs : List (CutRun C)) → Option (RunsReading xs) → (Who → Bool) → List (RunsRound xs) → Type 0
AllRunsRoundsStand many o xs before taken [] = ⊤
AllRunsRoundsStand many o xs before taken (y ∷ ys) =
    RunsRoundStands many o xs taken (runs_before xs before) y.reading y.members × AllRunsRoundsStand many o xs (Some y.reading) y.members ys

-- Of runs one behind the other on so many logs, whatever the rounds of a follower read of them, and when, and whomever they take of those
-- that they may.
abbrev pub InEveryRunsRound : Type 0 → Type 0
InEveryRunsRound C =
    (many : ℕ) (o : Opening) (xs : List (CutRun C)) (ys : List (RunsRound xs))
    → 1 ≤ length o.states → AllByRecursion (λ x. x.fixed.text.logs ≡ many) xs → GoOn o xs → GoOnRunsRounds many (state_in o.states) xs None (λ y. false) ys
    → AllRunsRoundsStand many o xs None (λ y. false) ys

-- Whatever is read of a log of these runs, of each key at most one record is among it.
abbrev pub RecordsReadOnce : Type 0 → Type 0
RecordsReadOnce C =
    (many : ℕ) (o : Opening) (xs : List (CutRun C)) (r : RunsReading xs)
    → 1 ≤ length o.states → AllByRecursion (λ x. x.fixed.text.logs ≡ many) xs → GoOn o xs
    → (l : ℕ) → l < many → (k : RecordKey) → count (has_key k) (runs_read xs r l) ≤ 1

-- ---- what two calls owe

-- each round takes as many as it may
abbrev pub TakeMostRunsRounds : {C : Type 0} → ℕ → (ℕ → State) → (xs : List (CutRun C)) → Option (RunsReading xs) → (Who → Bool) → List (RunsRound xs) → Type 0
TakeMostRunsRounds many first xs o taken [] = ⊤
TakeMostRunsRounds many first xs o taken (y ∷ ys) =
    (IsLaterThanRead xs o y.reading × TakesMost many first taken (runs_before xs o) (runs_read xs y.reading) y.members)
    × TakeMostRunsRounds many first xs (Some y.reading) y.members ys

-- whom the last round took
abbrev pub last_taken : {C : Type 0} (xs : List (CutRun C)) → (Who → Bool) → List (RunsRound xs) → Who → Bool
last_taken xs taken [] = taken
last_taken xs taken (y ∷ ys) = last_taken xs y.members ys

-- A commit that was read before a call, and that no crash took back, is taken by its second round.
abbrev pub SeenIsShownBehindRuns : Type 0 → Type 0
SeenIsShownBehindRuns C =
    (many : ℕ) (o : Opening) (xs : List (CutRun C)) (earlier : RunsReading xs) (x y : RunsRound xs)
    → 1 ≤ length o.states → AllByRecursion (λ x. x.fixed.text.logs ≡ many) xs → GoOn o xs → IsLaterRead xs earlier x.reading
    → TakeMostRunsRounds many (state_in o.states) xs None (λ z. false) (x ∷ y ∷ [])
    → (z : Who) → is_in many (runs_read xs earlier) z ≡ true → y.members z ≡ true

-- Of two calls, each reading of the second no earlier than any of the first, and nothing that was read taken back by a crash: nothing
-- that the first took is missing in the second.
abbrev pub CallsKnowMoreBehindRuns : Type 0 → Type 0
CallsKnowMoreBehindRuns C =
    (many : ℕ) (o : Opening) (xs : List (CutRun C)) (zs : List (RunsRound xs)) (last x y : RunsRound xs) (ys : List (RunsRound xs))
    → 1 ≤ length o.states → AllByRecursion (λ x. x.fixed.text.logs ≡ many) xs → GoOn o xs
    → TakeMostRunsRounds many (state_in o.states) xs None (λ z. false) (zs ++ last ∷ []) → IsLaterRead xs last.reading x.reading
    → TakeMostRunsRounds many (state_in o.states) xs None (λ z. false) (x ∷ y ∷ ys)
    → (z : Who) → last.members z ≡ true → last_taken xs (λ z. false) (x ∷ y ∷ ys) z ≡ true
