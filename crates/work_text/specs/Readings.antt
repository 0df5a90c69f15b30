-- What a part of a text is read as: a value, or the first fault. A reading is the relation that holds of
-- what the part is read as. Readings follow one another: the first fault ends them.
use Rattle.std.specs.Prelude.{◌≡◌, ℕ, Bool, true, false, Result, Ok, Err, ⊤}
use Rattle.snap_work.specs.declared.faults.WorkCause.{WorkCause}
use Rattle.snap_work.specs.declared.faults.WorkFault.{WorkFault}
use Rattle.snap_work.specs.declared.faults.WorkNo.{WorkNo}
use Rattle.snap_work.specs.declared.faults.WorkNo.TheVariants as no

abbrev pub ReadingOf : Type 0 → Type 1
ReadingOf A = Result A WorkFault → Type 0

abbrev pub fault : ℕ → WorkCause → WorkFault
fault line cause = record { line = line; cause = cause }

abbrev pub gives : {A : Type 0} → A → ReadingOf A
gives x read = read ≡ Ok x

abbrev pub fails : {A : Type 0} → ℕ → WorkCause → ReadingOf A
fails line cause read = read ≡ Err (fault line cause)

-- what goes on behind a part
abbrev pub Goes : {A B : Type 0} → (A → ReadingOf B) → Result A WorkFault → ReadingOf B
Goes next (Ok x) read = next x read
Goes next (Err f) read = read ≡ Err f

infixl 10 ◌>>=◌
abbrev pub ◌>>=◌ : {A B : Type 0} → ReadingOf A → (A → ReadingOf B) → ReadingOf B
(first >>= next) read = (x : Result _ WorkFault) × first x × Goes next x read

-- a part that is refused unless a test holds
abbrev pub only : {A : Type 0} → Bool → ℕ → WorkCause → ReadingOf A → ReadingOf A
only true line cause reading = reading
only false line cause reading = fails line cause

-- one part where a test holds, and else another
abbrev pub whether : {A : Type 0} → Bool → ReadingOf A → ReadingOf A → ReadingOf A
whether true first other = first
whether false first other = other

-- ---- what a reader answers

-- why there is no value is a fault that the part is read as, or want of memory
abbrev pub IsNo : {A : Type 0} → ReadingOf A → WorkNo → Type 0
IsNo reading (no.Fault f) = reading (Err f)
IsNo reading no.Memory = ⊤

-- what a reader answers, seen by a view, is what the part is read as
abbrev pub Is : {A B : Type 0} → (A → B) → Result A WorkNo → ReadingOf B → Type 0
Is view (Ok x) reading = reading (Ok (view x))
Is view (Err why) reading = IsNo reading why
