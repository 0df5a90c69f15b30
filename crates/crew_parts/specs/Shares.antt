-- What contracts see of a part that workers share: the machine's part, and what stands beside it under the same turn.
use Rattle.std.specs.Prelude.{◌≡◌, ℕ, Bool, false, List, Option}
use Rattle.gate_log.specs.State.{LogState}
use Rattle.snap_hand.specs.Shown.{Shown}
use Rattle.snap_outside.specs.Causes.{EndsAtFault}

pub record OutputState : Type 0 where
  -- what it took, where it tells that, how often it failed, and how many calls were made after one had failed
  pub taken : Option (List ℕ)
  pub faults : ℕ
  pub late : ℕ
  -- whether it failed at a line of this crew
  pub failed : Bool

-- a log's journal on its device, or the output
pub record BesideState : Type 0 where
  pub journal : Option LogState
  pub output : Option OutputState

pub record ShareState : Type 0 where
  pub part : Shown
  pub beside : BesideState

abbrev pub output_seen : {O : Type 0} → (O → Option (List ℕ)) → (O → ℕ) → (O → ℕ) → Bool → O → OutputState
output_seen taken faults late failed o = record { taken = taken o; faults = faults o; late = late o; failed = failed }

-- No call was made behind one that failed; and where the output has not failed at a line, none of them failed.
abbrev pub GetsNoMore : OutputState → OutputState → Type 0
GetsNoMore old new = EndsAtFault (new.failed ≡ false) old.faults old.late new.faults new.late

-- a part with this beside it
abbrev pub share_of : Shown → BesideState → ShareState
share_of p b = record { part = p; beside = b }
