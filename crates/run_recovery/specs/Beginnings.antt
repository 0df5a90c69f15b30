-- What a crash leaves while a run begins: four logs are opened, those in use of format 1 are upgraded, those of the other side are
-- cleared, and what is written before the run is appended.
use Rattle.std.specs.Prelude.{◌≡◌, ℕ, ◌+◌, ◌<◌, ◌⊎◌, List, [], ◌∷◌, ◌++◌}
use Rattle.machine_recovery.specs.compact_laws.log_compact.Compacting.{IsOnSide}
use Rattle.machine_recovery.specs.compact_laws.log_compact.Finding.{IsLeftByRuns, IsUsed}
use Rattle.machine_recovery.specs.compact_laws.log_compact.Sets.{IsFolded, logs_from}
use Rattle.record_log.specs.gate_log.Opened.{beginning_ops}
use Rattle.run_opening.specs.log_opening.Devices.{device_at}
use Rattle.record_log.specs.Growth.{groups_ops}
use Rattle.run_opening.specs.Begins.{AreEmpty, Begins}
use Rattle.run_opening.specs.Opens.{first_groups, with_first}
use Rattle.run_opening.specs.Starts.{first_record}
use Rattle.run_recovery.specs.Crashes.{FindsRunsLogs}
use Rattle.run_opening.specs.log_opening.Cuts.{AreRecent, HoldFour, IsCutCall, IsFrontOfCall}
use Rattle.run_recovery.specs.OneRun.{TheRun}
use Rattle.snap_base.specs.declared.transactions.State.{State}
use Rattle.record_log.specs.snap_outside.declared.devices.DevOp.{DevOp}
use Rattle.record_log.specs.snap_outside.Disk.{DeviceHistory, content}
use Rattle.record_log.specs.txn_records.declared.records.Record.{Record}

-- these are made, from the first on
abbrev pub AreMadeFirst : List DevOp → List DevOp → Type 0
AreMadeFirst made ops = (left : List DevOp) × (ops ≡ made ++ left)

-- While the run begins these operations are made on a device: where it is log l's a front of those of opening, of an upgrade where the log
-- was of format 1, and of the groups before the run; and where it is not in use a front of those that it got.
pub record IsMadeBefore (r : TheRun) (d : ℕ) (h : DeviceHistory) (made : List DevOp) : Type 0 where
  pub in_use : (l : ℕ) (lt : l < r.work.logs) → d ≡ r.devices.head + l
      → AreMadeFirst made (beginning_ops (content h) ++ groups_ops (r.devices.each l lt).end (first_groups l r.devices.added))
  pub aside : ¬ IsOnSide r.devices.head r.work.logs d → IsFrontOfCall (device_at r.after d) h made

-- A crash while the run begins: these bytes are left. The devices told what they held before, each a log of these records, and it was
-- durable.
pub record CrashBefore (r : TheRun) (images : ℕ → List ℕ) : Type 0 where
  pub held : ℕ → List Record
  pub made : ℕ → List DevOp
  pub each : (d : ℕ) → d < 4 → (cut : IsCutCall (device_at r.before d) (held d) (made d) (images d)) × IsMadeBefore r d cut.history (made d)

-- these records are the same as those; or, only where these are none, log 0 has Genesis alone
abbrev pub KeepsOrBegins : ℕ → List State → List (List Record) → List (List Record) → Type 0
KeepsOrBegins logs states records kept = (kept ≡ records) ⊎ (AreEmpty records × (kept ≡ with_first records (first_record logs states ∷ [])))

-- Each log in use is left with the records of before; or, only where no log held one, log 0 with Genesis alone. A run of the same
-- states begins on them with the same opening. The four devices are as runs leave them, where the run found them so.
pub record BeginsAgain (r : TheRun) (images : ℕ → List ℕ) : Type 0 where
  pub now : ℕ → List Record
  pub holds : HoldFour images now
  -- none of the logs in use is of format 1 with an item
  pub recent : AreRecent images r.devices.head r.work.logs
  pub kept : List (List Record)
  pub lists : logs_from now r.devices.head r.work.logs ≡ kept
  pub which : KeepsOrBegins r.work.logs r.work.states r.devices.records kept
  pub begins : Begins kept r.work.states r.opening
  -- they fold to what the logs fold to as the run begins
  pub folds : ¬ AreEmpty kept → IsFolded kept r.devices.fold
  -- the logs in use are the same, and as runs leave them, where the run found them so
  pub used : IsUsed now r.work.logs r.devices.head r.work.logs r.devices.generation
  pub set : FindsRunsLogs r → IsLeftByRuns now r.devices.head r.work.logs
