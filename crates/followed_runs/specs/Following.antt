-- A follower of growing logs, over the records of one run: how it reads them, whom a round takes, and what every round owes.
use Rattle.std.specs.Prelude.{◌≡◌, ◌≢◌, ◌⊎◌, if◌then◌else◌, ℕ, ◌≤◌, ◌<◌, ◌%◌, Bool, true, false, ◌&&◌, ◌||◌, Option, Some, None, List, [], ◌∷◌, ◌++◌, length, filter, take, ⊤}
use Rattle.snap_base.specs.declared.transactions.State.{State}
use Rattle.protocol.specs.Fixed.{Fixed, IsText}
use Rattle.protocol.specs.Facts.{Alone, state_in}
use Rattle.protocol.specs.Rests.{HasFacts}
use Rattle.protocol.specs.Records.{LogRecord}
use Rattle.protocol.specs.Parts.{Who, OfBatch, OfAct}
use Rattle.protocol.specs.Events.{Event}
use Rattle.protocol.specs.Words.{is_who, is_value}
use Rattle.protocol.specs.Effects.{log_at}
use Rattle.protocol.specs.Runs.{IsRun, reached}
use Rattle.protocol.specs.History.{Done, History, history}
use Rattle.protocol.specs.Chains.{chain, Precedes, HasValue, IsSerial, serial_run}
use Rattle.protocol_laws.specs.Commits.{is_kept, StatesLink, last_state}
use Rattle.protocol_records.specs.Telling.{One, told_states, names, last_one}
use Rattle.protocol_records.specs.Crash.{is_in, HasMember, BatchIsWhole, ActIsWhole}

-- ---- readings

-- The logs of a run as a reader finds them, one after the other: of each the events so far, and how many of its records are
-- there, which are those that are synced and some, or all, or none of the others.
pub record Reading {C : Type 0} (w : Fixed C) (es : List Event) : Type 0 where
  pub events : ℕ → List Event
  pub later : ℕ → List Event
  pub splits : (l : ℕ) → es ≡ events l ++ later l
  pub count : ℕ → ℕ
  pub all_synced : (l : ℕ) → (log_at (reached w (events l)) l).synced ≤ count l
  pub no_more : (l : ℕ) → count l ≤ length (log_at (reached w (events l)) l).records

-- the records that are read
abbrev pub what_is_read : {C : Type 0} {w : Fixed C} {es : List Event} → Reading w es → ℕ → List LogRecord
what_is_read {w = w} r l = take (r.count l) (log_at (reached w (r.events l)) l).records

-- Each log is read at no earlier moment than any of the round before, and nothing that was read of it is lost.
pub record IsLater {C : Type 0} {w : Fixed C} {es : List Event} (r q : Reading w es) : Type 0 where
  pub moments : (l i : ℕ) → (more : List Event) × (q.events i ≡ r.events l ++ more)
  pub still : (l : ℕ) → r.count l ≤ q.count l

-- ---- whom a round takes

-- one has a record ahead of one of the other
abbrev pub is_ahead : Who → Who → List One → Bool
is_ahead this that [] = false
is_ahead this that (o ∷ os) = (is_who this o.who && names that os) || is_ahead this that os

-- The record of this one tells another state than the last record before it of those that count, or than the first state.
abbrev pub Changes : (Who → Bool) → State → Who → List One → Type 0
Changes counts s this [] = ⊥
Changes counts s this (o ∷ os) = ((is_who this o.who ≡ true) × (o.state ≢ s)) ⊎ Changes counts (if counts o.who then o.state else s) this os

-- It does so ahead of a record of that one.
abbrev pub ChangedAhead : (Who → Bool) → State → Who → Who → List One → Type 0
ChangedAhead counts s this that [] = ⊥
ChangedAhead counts s this that (o ∷ os) =
    ((is_who this o.who ≡ true) × (o.state ≢ s) × (names that os ≡ true)) ⊎ ChangedAhead counts (if counts o.who then o.state else s) this that os

-- So it is in the log of some actor, where those count whose commit records are there: who left an actor as it was stands ahead of nobody
-- there.
abbrev pub StandsAhead : ℕ → (ℕ → State) → (ℕ → List LogRecord) → Who → Who → Type 0
StandsAhead many first logs this that = (a : ℕ) × ChangedAhead (is_in many logs) (first a) this that (told_states a (logs (a % many)))

-- A round may take these: all that the rounds before took, and others whose commit records the round before read. With each
-- of the others it takes all that stand ahead of it in what this round reads, and whose commit records are there.
pub record MayTake (many : ℕ) (first : ℕ → State) (taken : Who → Bool) (before now : ℕ → List LogRecord) (members : Who → Bool) : Type 0 where
  pub stay : (y : Who) → taken y ≡ true → members y ≡ true
  pub seen : (y : Who) → members y ≡ true → taken y ≡ false → is_in many before y ≡ true
  pub rest_on : (y z : Who) → members y ≡ true → taken y ≡ false → StandsAhead many first now z y → is_in many now z ≡ true → members z ≡ true

-- It takes as many as it may.
pub record TakesMost (many : ℕ) (first : ℕ → State) (taken : Who → Bool) (before now : ℕ → List LogRecord) (members : Who → Bool) : Type 0 where
  pub may : MayTake many first taken before now members
  pub greatest : (others : Who → Bool) → MayTake many first taken before now others → (y : Who) → others y ≡ true → members y ≡ true

-- the state of an actor: that of the last record of a member, or the first one
abbrev pub followed_state : ℕ → (Who → Bool) → (ℕ → List LogRecord) → ℕ → State → State
followed_state many members logs a first = last_one first (filter (λ o. members o.who) (told_states a (logs (a % many))))

-- ---- rounds

pub record Round {C : Type 0} (w : Fixed C) (es : List Event) : Type 0 where
  pub reading : Reading w es
  pub members : Who → Bool

-- what the round before read: before the first one nothing
abbrev pub read_before : {C : Type 0} {w : Fixed C} {es : List Event} → Option (Reading w es) → ℕ → List LogRecord
read_before None l = []
read_before (Some r) l = what_is_read r l

abbrev pub IsLaterThan : {C : Type 0} {w : Fixed C} {es : List Event} → Option (Reading w es) → Reading w es → Type 0
IsLaterThan None q = ⊤
IsLaterThan (Some r) q = IsLater r q

-- each round goes on from the one before it
abbrev pub GoOnRounds : {C : Type 0} {w : Fixed C} {es : List Event} → Option (Reading w es) → (Who → Bool) → List (Round w es) → Type 0
GoOnRounds o taken [] = ⊤
GoOnRounds {w = w} o taken (x ∷ xs) =
    (IsLaterThan o x.reading × MayTake w.text.logs (state_in w.text.opening.states) taken (read_before o) (what_is_read x.reading) x.members)
    × GoOnRounds (Some x.reading) x.members xs

-- ---- what every round owes

-- those that committed with a value, of a set
abbrev pub followed : (Who → Bool) → History → List Done
followed members h = filter (λ d. members d.who && is_value d.result) h.committed

-- What this batch or ACT did that committed with a value goes on from one state of the actor, and leaves it in another. A batch whose
-- transactions change an actor and change it back has left it as it was.
pub record HasChanged (a : ℕ) (this : Who) (h : History) : Type 0 where
  pub found : State
  pub links : StatesLink a found (followed (is_who this) h)
  pub another : last_state a found (followed (is_who this) h) ≢ found

-- t was placed before u on some actor, and its batch, or it as an ACT, changed this actor
abbrev pub ChangedBefore : ℕ → ℕ → History → Type 0
ChangedBefore t u h = (a : ℕ) × (p : Precedes t u (chain a h)) × HasChanged a p.first.who h

-- Who is in the set has with it all that committed with a value, and was placed before it on an actor that it or its batch changed.
abbrev pub IsClosedByChange : (ℕ → Type 0) → History → Type 0
IsClosedByChange In h = (t u : ℕ) → In u → ChangedBefore t u h → HasValue t h → In t

pub record RoundStands {C : Type 0} (w : Fixed C) (finish : C → List State → Alone) (es : List Event) (taken : Who → Bool) (before now : ℕ → List LogRecord) (members : Who → Bool) : Type 0 where
  -- who was taken stays
  pub none_lost : (y : Who) → taken y ≡ true → members y ≡ true
  -- who is a member has committed with a value, a reader or not
  pub all_done : (y : Who) → members y ≡ true → (is_kept y (history w es).kept || is_kept y (history w es).kept_readers) ≡ true
  -- with each member all that committed with a value, and that the run places before it on an actor that it or its batch changed
  pub closed : IsClosedByChange (λ t. HasMember t (followed members (history w es))) (history w es)
  -- one after the other in the order of places the members give their results
  pub serial : IsSerial w finish (followed members (history w es))
  -- the states are those that the members leave
  pub states : (a : ℕ) → a < length w.text.opening.states → followed_state w.text.logs members now a (state_in w.text.opening.states a) ≡ state_in (serial_run w finish (followed members (history w es))).world a
  -- no list lacks what it had
  pub no_less : (l : ℕ) → (more : List LogRecord) × (now l ≡ before l ++ more)
  -- and nothing is missing of those whose commit records the round before read
  pub whole_batches : (k : ℕ) → is_in w.text.logs before (OfBatch k) ≡ true → BatchIsWhole w.text.logs now k
  pub whole_acts : (t : ℕ) → is_in w.text.logs before (OfAct t) ≡ true → ActIsWhole w.text.logs now t

abbrev pub AllRoundsStand : {C : Type 0} {w : Fixed C} {es : List Event} → (C → List State → Alone) → Option (Reading w es) → (Who → Bool) → List (Round w es) → Type 0
AllRoundsStand finish o taken [] = ⊤
AllRoundsStand {w = w} {es = es} finish o taken (x ∷ xs) =
    RoundStands w finish es taken (read_before o) (what_is_read x.reading) x.members × AllRoundsStand finish (Some x.reading) x.members xs

-- In every run, whatever the rounds of a follower read of its logs, and when, and whomever they take of those that they may.
abbrev pub InEveryRound : Type 0 → Type 0
InEveryRound C =
    (w : Fixed C) (finish : C → List State → Alone) (es : List Event) (xs : List (Round w es))
    → HasFacts w finish → IsText w.text → IsRun w es → GoOnRounds None (λ y. false) xs
    → AllRoundsStand finish None (λ y. false) xs

-- ---- what two calls owe

-- each round takes as many as it may
abbrev pub TakeMostRounds : {C : Type 0} {w : Fixed C} {es : List Event} → Option (Reading w es) → (Who → Bool) → List (Round w es) → Type 0
TakeMostRounds o taken [] = ⊤
TakeMostRounds {w = w} o taken (x ∷ xs) =
    (IsLaterThan o x.reading × TakesMost w.text.logs (state_in w.text.opening.states) taken (read_before o) (what_is_read x.reading) x.members)
    × TakeMostRounds (Some x.reading) x.members xs

-- whom the last round took
abbrev pub last_members : {C : Type 0} {w : Fixed C} {es : List Event} → (Who → Bool) → List (Round w es) → Who → Bool
last_members taken [] = taken
last_members taken (x ∷ xs) = last_members x.members xs

-- A commit that was read before a call is taken by its second round.
abbrev pub SeenIsShown : Type 0 → Type 0
SeenIsShown C =
    (w : Fixed C) (finish : C → List State → Alone) (es : List Event) (earlier : Reading w es) (x y : Round w es)
    → HasFacts w finish → IsText w.text → IsRun w es → IsLater earlier x.reading → TakeMostRounds None (λ z. false) (x ∷ y ∷ [])
    → (z : Who) → is_in w.text.logs (what_is_read earlier) z ≡ true → y.members z ≡ true

-- Of two calls, each reading of the second no earlier than any of the first, nothing that the first took is missing in the second.
abbrev pub CallsKnowMore : Type 0 → Type 0
CallsKnowMore C =
    (w : Fixed C) (finish : C → List State → Alone) (es : List Event) (xs : List (Round w es)) (last x y : Round w es) (ys : List (Round w es))
    → HasFacts w finish → IsText w.text → IsRun w es → TakeMostRounds None (λ z. false) (xs ++ last ∷ []) → IsLater last.reading x.reading → TakeMostRounds None (λ z. false) (x ∷ y ∷ ys)
    → (z : Who) → last.members z ≡ true → last_members (λ z. false) (x ∷ y ∷ ys) z ≡ true
