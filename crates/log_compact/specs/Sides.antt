-- What clearing some of the open logs, one after the other, leaves of them.
use Rattle.std.specs.Prelude.{◌≡◌, ℕ, ◌<◌, ◌≤◌, false, List, length}
use Rattle.snap_outside.specs.Causes.{Rose}
use Rattle.snap_outside.specs.Disk.{AddsAll, AddsUpToFault}
use Rattle.gate_log.specs.Appends.{clear_ops}
use Rattle.gate_log.specs.Bytes.{FIRST_GATE}
use Rattle.gate_log.specs.Device.{Cleared, ClearsSafely}
use Rattle.gate_log.specs.State.{LogState, log_at}

-- ---- one log

-- the log holds no item, and keeps its format
pub record IsCleared (old new : LogState) : Type 0 where
  pub adds : AddsAll old.told new.told (clear_ops old.end)
  pub cleared : Cleared old.told new.told old.end
  pub safe : ClearsSafely old.told new.told old.end
  pub gate : new.end ≡ FIRST_GATE
  pub format : new.format ≡ old.format
  pub ready : new.shut ≡ false
  pub later : old.faults ≤ new.faults

-- the clearing of the log met a failing device: a crash leaves its items, or none
pub record IsClearFailed (old new : LogState) : Type 0 where
  pub adds : AddsUpToFault old.told new.told (clear_ops old.end)
  pub safe : ClearsSafely old.told new.told old.end
  pub rose : Rose old.faults new.faults
  pub later : old.faults ≤ new.faults

-- ---- logs one after the other

-- each log from the first of these numbers on, and below the second, is done so, and all others are as they were
pub record AreDone (Done : LogState → LogState → Type 0) (from end : ℕ) (old new : List LogState) : Type 0 where
  pub many : length new ≡ length old
  pub before : (l : ℕ) → l < from → log_at new l ≡ log_at old l
  pub there : (l : ℕ) → from ≤ l → l < end → Done (log_at old l) (log_at new l)
  pub behind : (l : ℕ) → end ≤ l → log_at new l ≡ log_at old l

-- Of the logs from the first of these numbers on, and below the second, this one failed; those before it are done, and all others are as
-- they were.
pub record IsDoneUpTo (Done Failed : LogState → LogState → Type 0) (from end n : ℕ) (old new : List LogState) : Type 0 where
  pub reached : from ≤ n
  pub asked : n < end
  pub many : length new ≡ length old
  pub before : (l : ℕ) → l < from → log_at new l ≡ log_at old l
  pub there : (l : ℕ) → from ≤ l → l < n → Done (log_at old l) (log_at new l)
  pub failed : Failed (log_at old n) (log_at new n)
  pub behind : (l : ℕ) → n < l → log_at new l ≡ log_at old l
