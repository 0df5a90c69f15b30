-- What a call wrote to a sink, as contracts see it.
use Rattle.std.specs.Prelude.{◌≡◌, ℕ, ◌⊎◌, List, ◌++◌, Option}
use Rattle.std.specs.List.{flat_map}
use Rattle.std.specs.Io.KnownBytes.{Keeps, Appends}
use Rattle.snap_outside.specs.Causes.{Rose}
use Rattle.snap_outside.specs.declared.sinks.Sink.{Ghosts}

-- the sink: the bytes that it has taken, where it tells them, and its faults
pub record Writing : Type 0 where
  pub taken_before : Option (List ℕ)
  pub taken_after : Option (List ℕ)
  pub faults_before : ℕ
  pub faults_after : ℕ

-- a sink before and after a call, by what sinks of its kind tell
abbrev pub writing_of : {O : Type 0} → Ghosts O → O → O → Writing
writing_of tells before after = record { taken_before = tells.taken before; taken_after = tells.taken after; faults_before = tells.faults before; faults_after = tells.faults after }

-- nothing was written
abbrev pub WritesNothing : Writing → Type 0
WritesNothing w = Keeps w.taken_before w.taken_after

-- the sink got no call, as far as these tell
abbrev pub IsSilent : Writing → Type 0
IsSilent w = (w.taken_after ≡ w.taken_before) × (w.faults_after ≡ w.faults_before)

abbrev pub Writes : Writing → List ℕ → Type 0
Writes w bytes = Appends w.taken_before w.taken_after bytes

-- only a front of the bytes was written
abbrev pub WritesFront : Writing → List ℕ → Type 0
WritesFront w bytes = (front rest : List ℕ) × (bytes ≡ front ++ rest) × Writes w front

-- these bytes were written, and then a front of those
abbrev pub WritesBehind : Writing → List ℕ → List ℕ → Type 0
WritesBehind w first then = (front rest : List ℕ) × (then ≡ front ++ rest) × Writes w (first ++ front)

-- These bytes were written, and then whole lines: those of all these, or of some that come first. A line is cut only where the
-- sink failed.
abbrev pub WritesLines : {X : Type 0} → (X → List ℕ) → Writing → List ℕ → List X → Type 0
WritesLines {X} line w before xs =
    ((first rest : List X) × (xs ≡ first ++ rest) × Writes w (before ++ flat_map line first))
    ⊎ (Rose w.faults_before w.faults_after × WritesBehind w before (flat_map line xs))
