-- What a log's journal got: whole groups, and the front of one that met a fault.
use Rattle.std.specs.Prelude.{◌≡◌, ℕ, ◌≤◌, ◌<◌, ◌==◌, if◌then◌else◌, Bool, false, Option, None, Some, IfSome, is_some, List, ◌++◌, length}
use Rattle.aml_slice.specs.Controls.{Rest}
use Rattle.protocol.specs.Events.{Event}
use Rattle.protocol.specs.Fixed.{Fixed}
use Rattle.record_log.specs.gate_log.State.{LogState, log_at}
use Rattle.record_log.specs.Growth.{end_behind_groups, GrewBy}
use Rattle.run_effects.specs.Groups.{groups_of, group_behind}
use Rattle.snap_outside.specs.Causes.{Rose}
use Rattle.snap_outside.specs.Disk.{DeviceHistory}
use Rattle.record_log.specs.txn_records.declared.records.Record.{Record}

-- Whatever groups the log's device had got since it was opened, it got these behind them, and a front of the append of one
-- that met a fault, where one did.
abbrev pub GrewOn : LogState → LogState → List (List Record) → Option (List Record) → Type 0
GrewOn old new groups tried = (device : Option DeviceHistory) (end : ℕ) (first : List (List Record))
    → GrewBy device old.told end first None → old.end ≡ end_behind_groups end first → GrewBy device new.told end (first ++ groups) tried

-- A log got these groups, one append for each, and then one that met a fault of the device, where one did.
pub record IsDriven (old new : LogState) (groups : List (List Record)) (tried : Option (List Record)) : Type 0 where
  pub grew : GrewOn old new groups tried
  pub gate : new.end ≡ end_behind_groups old.end groups
  pub format : new.format ≡ old.format
  pub shut : new.shut ≡ is_some tried
  pub later : old.faults ≤ new.faults
  pub rose : IfSome tried (λ _. Rose old.faults new.faults)

-- ---- all logs of a run

-- no log failed
abbrev pub none_failed : ℕ → Bool
none_failed l = false

-- this one alone
abbrev pub only_failed : ℕ → ℕ → Bool
only_failed log l = log == l

-- the append that met a fault on this log, where it failed
abbrev pub tried_on : (ℕ → Bool) → ℕ → List Record → Option (List Record)
tried_on failed l group = if failed l then Some group else None

-- Each log got a group for each of its Syncs, and each that failed a front of what still waits.
abbrev pub AreDriven : Fixed Rest → List Event → (ℕ → Bool) → List LogState → List LogState → Type 0
AreDriven w es failed old new =
    (length new ≡ length old) × ((l : ℕ) → l < length old → IsDriven (log_at old l) (log_at new l) (groups_of w l es) (tried_on failed l (group_behind w l es)))
