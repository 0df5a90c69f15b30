-- What is written behind the replies of a run.
use Rattle.std.specs.Prelude.{◌≡◌, ℕ, ◌⊎◌, not, Option, List, [], ◌∷◌, ◌++◌, filter}
use Rattle.std.specs.List.{flat_map}
use Rattle.std.specs.Io.KnownBytes.{Appends, Keeps}
use Rattle.snap_base.specs.declared.verdicts.Verdict.TheVariants.{Unsure}
use Rattle.core_events.specs.declared.events.Event as code
use Rattle.protocol.specs.Events.{Event}
use Rattle.protocol.specs.Report.{replied}
use Rattle.protocol.specs.Words.{below, is_among}
use Rattle.snap_outside.specs.Causes.{Rose}
use Rattle.snap_report.specs.Lines.{reply_text}
use Rattle.trace_text.specs.Lines.{event_line}

-- a front of the bytes was written
abbrev pub AppendsFront : Option (List ℕ) → Option (List ℕ) → List ℕ → Type 0
AppendsFront old new bytes = (front rest : List ℕ) × (bytes ≡ front ++ rest) × Appends old new front

-- Nothing was written, or a front of the bytes, since the sink failed, whose count rose from the one number to the other.
abbrev pub IsBrokenOff : Option (List ℕ) → Option (List ℕ) → ℕ → ℕ → List ℕ → Type 0
IsBrokenOff old new before now bytes = Keeps old new ⊎ (Rose before now × AppendsFront old new bytes)

-- Whole lines were written: those of all these, or of some that come first. A line is cut only where the sink failed.
abbrev pub AppendsLines : {X : Type 0} → (X → List ℕ) → Option (List ℕ) → Option (List ℕ) → ℕ → ℕ → List X → Type 0
AppendsLines {X} line old new before now xs =
    ((first rest : List X) × (xs ≡ first ++ rest) × Appends old new (flat_map line first))
    ⊎ (Rose before now × AppendsFront old new (flat_map line xs))

-- the line of an event in a trace
abbrev pub traced_line : code.Event → List ℕ
traced_line e = event_line e ++ 10 ∷ []

-- the transactions of a text of so many that the events do not answer, in its order
abbrev pub unanswered : List Event → ℕ → List ℕ
unanswered es count = filter (λ n. not (is_among n (replied es))) (below count)

-- the line that tells of a transaction that it is not known whether it is committed, as the device of this log failed
abbrev pub unsure_line : ℕ → ℕ → List ℕ
unsure_line log n = reply_text n (Unsure log)
