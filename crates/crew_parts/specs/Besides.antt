-- What stands beside a part: when it can go on, and what an append and a line make of it.
use Rattle.std.specs.Prelude.{◌≡◌, ℕ, ◌<◌, ◌≤◌, Bool, true, false, not, Option, None, Some, Result, Ok, Err, List, ◌++◌, ⊤}
use Rattle.std.specs.Io.KnownBytes.{Appends}
use Rattle.crew_parts.specs.Acts.{HasPrinted}
use Rattle.crew_parts.specs.Shares.{BesideState, OutputState, GetsNoMore}
use Rattle.gate_log.specs.Device.{MayAppend}
use Rattle.gate_log.specs.State.{LogState}
use Rattle.gate_log.specs.declared.logs.AppendNo.{AppendNo}
use Rattle.gate_log.specs.declared.logs.AppendNo.TheVariants as append
use Rattle.protocol.specs.Events.{desk, log}
use Rattle.run_effects.specs.Appending.{IsAppended, IsCutOff}
use Rattle.snap_outside.specs.Causes.{Rose}
use Rattle.snap_outside.specs.declared.schedules.Failed.{Failed}

abbrev pub beside_none : BesideState
beside_none = record { journal = None; output = None }

abbrev pub beside_log : LogState → BesideState
beside_log j = record { journal = Some j; output = None }

abbrev pub beside_desk : OutputState → BesideState
beside_desk o = record { journal = None; output = Some o }

-- where there may be something
abbrev pub beside_held : Option BesideState → BesideState
beside_held None = beside_none
beside_held (Some b) = b

-- ---- when a part can go on

abbrev pub is_ready_journal : Option LogState → Bool
is_ready_journal None = false
is_ready_journal (Some j) = not j.shut

abbrev pub is_ready_output : Option OutputState → Bool
is_ready_output None = false
is_ready_output (Some o) = not o.failed

-- a journal that is there is shut
abbrev pub is_shut_there : Option LogState → Bool
is_shut_there None = false
is_shut_there (Some j) = j.shut

-- a journal that is there is of format 2, so it may be appended to
abbrev pub IsOfFormat2 : Option LogState → Type 0
IsOfFormat2 None = ⊤
IsOfFormat2 (Some j) = j.format ≡ 2

-- an output that is there has failed
abbrev pub has_failed_there : Option OutputState → Bool
has_failed_there None = false
has_failed_there (Some o) = o.failed

-- Beside a log, where there are so many, is a journal that takes appends; beside the desk an output that has not failed.
pub record IsSoundBeside (logs i : ℕ) (b : BesideState) : Type 0 where
  pub journal : (l : ℕ) → l < logs → i ≡ log l → is_ready_journal b.journal ≡ true
  pub output : i ≡ desk → is_ready_output b.output ≡ true

-- ---- an append

pub record MayAppendTo (b : BesideState) (pieces : List (List ℕ)) : Type 0 where
  pub journal : LogState
  pub is : b.journal ≡ Some journal
  pub ready : journal.shut ≡ false
  pub may : MayAppend journal.end pieces

-- the journal alone changed
pub record JournalBecame (changes : LogState → LogState → Type 0) (old new : BesideState) : Type 0 where
  pub before : LogState
  pub after : LogState
  pub was : old.journal ≡ Some before
  pub is : new.journal ≡ Some after
  pub output : new.output ≡ old.output
  pub changed : changes before after

abbrev pub HasAppended : BesideState → BesideState → List (List ℕ) → Result (Unit {0}) AppendNo → Type 0
HasAppended old new pieces (Ok _) = JournalBecame (λ a b. IsAppended a b pieces) old new
HasAppended old new pieces (Err append.Device) = JournalBecame (λ a b. IsCutOff a b pieces) old new
HasAppended old new pieces (Err append.Shut) = ⊥
HasAppended old new pieces (Err append.Memory) = new ≡ old

-- ---- a line

abbrev pub MayWriteTo : BesideState → Type 0
MayWriteTo b = is_ready_output b.output ≡ true

-- It took a front of the line, and failed.
pub record HasBrokenOff (all : List ℕ) (old new : OutputState) : Type 0 where
  pub front : List ℕ
  pub rest : List ℕ
  pub line : all ≡ front ++ rest
  pub taken : Appends old.taken new.taken front
  pub failed : new.failed ≡ true
  pub rose : Rose old.faults new.faults
  pub later : old.faults ≤ new.faults
  pub once : GetsNoMore old new

-- the output alone changed
pub record OutputBecame (changes : OutputState → OutputState → Type 0) (old new : BesideState) : Type 0 where
  pub before : OutputState
  pub after : OutputState
  pub was : old.output ≡ Some before
  pub is : new.output ≡ Some after
  pub journal : new.journal ≡ old.journal
  pub changed : changes before after

abbrev pub HasWritten : BesideState → BesideState → List ℕ → Result (Unit {0}) Failed → Type 0
HasWritten old new line (Ok _) = OutputBecame (HasPrinted line) old new
HasWritten old new line (Err _) = OutputBecame (HasBrokenOff line) old new
