-- What a count of faults says of a call; and that calls end at the first that fails.
use Rattle.std.specs.Prelude.{◌≡◌, ℕ, ◌+◌, ◌-◌, ◌^◌, ◌<◌, ◌≤◌, min, Result, OnErr}

-- The count has risen, or stands at the counters' last value.
abbrev pub Rose : ℕ → ℕ → Type 0
Rose before now = min (before + 1) (2 ^ 64 - 1) ≤ now

-- A count never falls, and a call fails only where its count rose.
pub record HasCause {T E : Type 0} (before now : ℕ) (result : Result T E) : Type 0 where
  pub later : before ≤ now
  pub failed : OnErr result (Rose before now)

-- A call is late where one failed before it. The count of the late ones rises by such a call, up to the counters' last value, and
-- stays at any other.
pub record CountsLate (faults before now : ℕ) : Type 0 where
  pub early : faults ≡ 0 → now ≡ before
  pub late : 0 < faults → now ≡ min (before + 1) (2 ^ 64 - 1)

-- Calls were made, and none behind one that failed: where none had failed before, as many are late as were. Where `fine` holds none
-- of them failed.
pub record EndsAtFault (fine : Type 0) (faults_before late_before faults_now late_now : ℕ) : Type 0 where
  pub quiet : fine → faults_now ≡ faults_before
  pub none_late : faults_before ≡ 0 → late_now ≡ late_before
