-- Several runs, one after the other, each cut off by a crash at some moment, and each on what the logs were left with.
use Rattle.std.specs.Prelude.{◌≡◌, ℕ, ◌+◌, true, List, [], ◌∷◌, ⊤}
use Rattle.std.specs.List.{AllByRecursion}
use Rattle.snap_base.specs.declared.transactions.State.{State}
use Rattle.protocol.specs.Fixed.{Opening, Fixed, IsText}
use Rattle.protocol.specs.Facts.{Alone}
use Rattle.protocol.specs.Rests.{HasFacts}
use Rattle.protocol.specs.Records.{LogRecord}
use Rattle.protocol.specs.Events.{Event}
use Rattle.protocol.specs.Runs.{IsRun, reached}
use Rattle.protocol.specs.Moments.{Moment, IsLeft, left_in}
use Rattle.protocol.specs.History.{Done, history}
use Rattle.protocol.specs.Chains.{is_place_below}
use Rattle.protocol_records.specs.Crash.{recovered_state, members, CrashHolds}
use Rattle.protocol_records.specs.NextNumbers.{next_tid_of, next_bid_of, next_c_of, NextNumbersStand}

-- a run of a text, the moment of the crash, and how many records each log is left with
pub record CutRun (C : Type 0) : Type 0 where
  pub fixed : Fixed C
  pub finish : C → List State → Alone
  pub events : List Event
  pub moment : Moment fixed events
  pub kept : ℕ → ℕ

-- it may be: a run of an accepted text with code that has the facts, cut off there
pub record MayBe {C : Type 0} (x : CutRun C) : Type 0 where
  pub facts : HasFacts x.fixed x.finish
  pub text : IsText x.fixed.text
  pub run : IsRun x.fixed x.events
  pub left : IsLeft x.fixed x.events x.moment x.kept

-- what the logs are left with
abbrev pub logs_left : {C : Type 0} → CutRun C → ℕ → List LogRecord
logs_left x = left_in (reached x.fixed x.moment.events) x.kept

-- its members: the transactions that are recovered of it
abbrev pub members_of : {C : Type 0} → CutRun C → List Done
members_of x = members x.fixed.text.logs (logs_left x) (history x.fixed x.moment.events)

-- the states of the actors from this one on, which began with these
abbrev pub recovered_from : ℕ → (ℕ → List LogRecord) → ℕ → List State → List State
recovered_from many logs n [] = []
recovered_from many logs n (s ∷ ss) = recovered_state many logs n s ∷ recovered_from many logs (n + 1) ss

-- the opening to which the logs recover, from which the next run begins
abbrev pub opening_left : {C : Type 0} → CutRun C → Opening
opening_left x = record {
  states = recovered_from x.fixed.text.logs (logs_left x) 0 x.fixed.text.opening.states;
  next_tid = next_tid_of x.fixed (logs_left x);
  next_bid = next_bid_of x.fixed (logs_left x);
  next_c = next_c_of x.fixed (logs_left x);
}

-- each begins from what the one before it left, the first from this opening
abbrev pub GoOn : {C : Type 0} → Opening → List (CutRun C) → Type 0
GoOn o [] = ⊤
GoOn o (x ∷ xs) = MayBe x × (x.fixed.text.opening ≡ o) × GoOn (opening_left x) xs

-- each of these is below each member of these runs
abbrev pub AreBelow : {C : Type 0} → List Done → List (CutRun C) → Type 0
AreBelow ds [] = ⊤
AreBelow ds (x ∷ xs) = AllByRecursion (λ d. AllByRecursion (λ e. is_place_below d.place e.place ≡ true) (members_of x)) ds × AreBelow ds xs

-- What holds of each run holds on what the ones before it left: its members are closed and serial from there, hold all who
-- were told, and leave the states from which the next one begins. And the places of its members are below those of all later
-- runs.
abbrev pub RunsStand : {C : Type 0} → List (CutRun C) → Type 0
RunsStand [] = ⊤
RunsStand (x ∷ xs) =
    CrashHolds x.fixed x.finish x.events (reached x.fixed x.moment.events) (history x.fixed x.moment.events) (logs_left x)
    × NextNumbersStand x.fixed x.finish x.events (reached x.fixed x.moment.events) (history x.fixed x.moment.events) (logs_left x)
    × AreBelow (members_of x) xs
    × RunsStand xs
