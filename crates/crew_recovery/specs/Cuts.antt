-- A crash at a step of a crew's table.
use Rattle.std.specs.Prelude.{◌≡◌, ℕ, ◌+◌, ◌<◌, Option, Some, List}
use Rattle.record_log.specs.snap_outside.Disk.{DeviceHistory, with_ops}
use Rattle.record_log.specs.snap_outside.declared.devices.DevOp.{DevOp}
use Rattle.record_log.specs.txn_records.declared.records.Record.{Record}
use Rattle.run_opening.specs.log_opening.Cuts.{IsCutCall, IsFrontOfCall}
use Rattle.run_opening.specs.log_opening.Devices.{device_at}
use Rattle.run_opening.specs.log_opening.log_compact.Compacting.{IsOnSide}
use Rattle.run_recovery.specs.OneRun.{TheRun}

-- A crash left these bytes of a device, which had told that it held a log of these records, and it was durable. Of log l's device these
-- operations are those of the history that the device told at the step; and of one that is not in use they are a front of those
-- that it got.
pub record IsCutAtStep (r : TheRun) (told : ℕ → Option DeviceHistory) (d : ℕ) (held : List Record) (made : List DevOp) (image : List ℕ) : Type 0 where
  pub cut : IsCutCall (device_at r.before d) held made image
  pub in_use : (l : ℕ) → l < r.work.logs → d ≡ r.devices.head + l → told l ≡ Some (with_ops cut.history made)
  pub aside : ¬ IsOnSide r.devices.head r.work.logs d → IsFrontOfCall (device_at r.after d) cut.history made

-- of all four
pub record AreCutAt (r : TheRun) (told : ℕ → Option DeviceHistory) (images : ℕ → List ℕ) : Type 0 where
  pub held : ℕ → List Record
  pub made : ℕ → List DevOp
  pub each : (d : ℕ) → d < 4 → IsCutAtStep r told d (held d) (made d) (images d)

-- what the device of log l tells as the run has ended
abbrev pub told_after : TheRun → ℕ → Option DeviceHistory
told_after r l = (device_at r.after (r.devices.head + l)).told
