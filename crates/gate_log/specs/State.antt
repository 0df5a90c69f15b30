-- What contracts see of a log.
use Rattle.std.specs.Prelude.{◌≡◌, ℕ, ◌<◌, Bool, true, false, List, [], Option, None, slice_index_or, length}
use Rattle.gate_log.specs.declared.logs.LogItem.{LogItem}
use Rattle.snap_outside.specs.Disk.{DeviceHistory}

-- an open log
pub record LogState : Type 0 where
  -- the device's history, where it tells it
  pub told : Option DeviceHistory
  -- the offset of the closed gate
  pub end : ℕ
  -- 1 or 2
  pub format : ℕ
  -- whether a call has met a failing device
  pub shut : Bool
  -- the items that were found at opening and are not taken yet
  pub found : List LogItem
  -- the device's faults
  pub faults : ℕ

-- the log with this number, from 0 on; past the last one a log that is shut, on a device that tells nothing
abbrev pub log_at : List LogState → ℕ → LogState
log_at logs n = slice_index_or logs n (record { told = None; end = 0; format = 2; shut = true; found = []; faults = 0 })

-- whether the log with this number is shut
abbrev pub is_log_shut : List LogState → ℕ → Bool
is_log_shut logs n = (log_at logs n).shut

-- none of the logs is shut
abbrev pub AreAllOpen : List LogState → Type 0
AreAllOpen logs = (l : ℕ) → l < length logs → (log_at logs l).shut ≡ false

-- the device, the gate and the shutter are as before
pub record IsUntouched (before after : LogState) : Type 0 where
  pub told : after.told ≡ before.told
  pub end : after.end ≡ before.end
  pub format : after.format ≡ before.format
  pub shut : after.shut ≡ before.shut
  pub faults : after.faults ≡ before.faults
