-- What a run tells: a reply for each Reply event, in their order, the actors' states, and three counts.
use Rattle.std.specs.Prelude.{ℕ, Bool, true, false, not, Option, List, [], ◌∷◌, map}
use Rattle.snap_base.specs.declared.transactions.State.{State}
use Rattle.snap_base.specs.declared.verdicts.Verdict.{Verdict}
use Rattle.snap_base.specs.declared.verdicts.Verdict.TheVariants as verdicts
use Rattle.protocol.specs.Parts.{Machine}
use Rattle.protocol.specs.Events.{Event, Reply}
use Rattle.protocol.specs.Words.{holds, count, is_settled}
use Rattle.protocol.specs.Verdicts.{verdict}

pub record Answer : Type 0 where
  pub tx : ℕ
  pub verdict : Option Verdict

pub record Report : Type 0 where
  pub answers : List Answer
  pub states : List State
  pub committed : ℕ
  pub aborted : ℕ
  pub batches : ℕ

abbrev pub is_committed : Verdict → Bool
is_committed (verdicts.Committed p v) = true
is_committed _ = false

-- the transactions that were answered, in order
abbrev pub replied : List Event → List ℕ
replied [] = []
replied (Reply n ∷ es) = n ∷ replied es
replied (_ ∷ es) = replied es

abbrev pub answer : {C : Type 0} → Machine C → ℕ → Answer
answer s n = record { tx = n; verdict = verdict n s.book s.desk }

abbrev pub answers : {C : Type 0} → List Event → Machine C → List Answer
answers es s = map (answer s) (replied es)

-- Of a list of events and the state after it. The committed are those with that verdict, the aborted all others
-- that were answered, the batches those that are settled.
abbrev pub report : {C : Type 0} → List Event → Machine C → Report
report es s = record {
  answers = answers es s;
  states = map (λ c. c.state) s.cells;
  committed = count (λ x. holds is_committed x.verdict) (answers es s);
  aborted = count (λ x. not (holds is_committed x.verdict)) (answers es s);
  batches = count (λ b. is_settled b.stage) s.desk.batches;
}
