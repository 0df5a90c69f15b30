-- A batch that failed, behind those alone that are told that they committed: also where a run stopped early.
use Rattle.std.specs.Prelude.{◌≡◌, ℕ, Some, List, ◌∷◌, ◌++◌}
use Rattle.snap_base.specs.declared.transactions.State.{State}
use Rattle.snap_base.specs.declared.verdicts.Verdict.TheVariants as verdicts
use Rattle.protocol.specs.Fixed.{Fixed}
use Rattle.protocol.specs.Facts.{Alone}
use Rattle.protocol.specs.Events.{Event, Abort}
use Rattle.protocol.specs.Runs.{reached}
use Rattle.protocol.specs.History.{history}
use Rattle.protocol.specs.Verdicts.{verdict}
use Rattle.protocol_records.specs.AsTold.{told_committed}
use Rattle.protocol_verdicts.specs.EvidenceSerial.{FailsInSerial}

-- One of the events is that Abort, and the PACT failed so, behind what counts of those alone that are told that they committed.
pub record FailedBehind {C : Type 0} (w : Fixed C) (finish : C → List State → Alone) (n k c code : ℕ) (es : List Event) : Type 0 where
  pub front : List Event
  pub later : List Event
  pub splits : es ≡ front ++ Abort k ∷ later
  pub next_c : (reached w front).book.next_c ≡ c
  pub there : FailsInSerial w finish n k c code (reached w front) (told_committed (reached w es) (history w es))

-- What every run owes: who is told that it failed with its batch did so.
abbrev pub ToldFailuresStand : {C : Type 0} → Fixed C → (C → List State → Alone) → List Event → Type 0
ToldFailuresStand w finish es = (n k c code : ℕ) → verdict n (reached w es).book (reached w es).desk ≡ Some (verdicts.BatchCode (record { 0 = k }) c code) → FailedBehind w finish n k c code es
