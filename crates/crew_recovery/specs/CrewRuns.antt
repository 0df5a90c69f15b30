-- A run that a crew has made.
use Rattle.std.specs.Prelude.{◌≡◌, ℕ, ◌+◌, ◌<◌, None, Some, List, length, slice_get}
use Rattle.crew_ends.specs.Ends.{AreBeside, log_at}
use Rattle.crew_parts.specs.Crews.{kept}
use Rattle.crew_parts.specs.Devices.{is_shut_at}
use Rattle.crew_parts.specs.Shares.{OutputState, ShareState}
use Rattle.crew_parts.specs.declared.acts.Act.{Act}
use Rattle.protocol.specs.Events.{log}
use Rattle.record_log.specs.Growth.{GrewBy, end_behind_groups}
use Rattle.record_log.specs.gate_log.State.{LogState, is_log_shut}
use Rattle.run_opening.specs.Opens.{first_groups}
use Rattle.run_opening.specs.log_opening.Devices.{device_at}
use Rattle.run_recovery.specs.OneRun.{TheRun}
use Rattle.snap_hand.specs.declared.tables.Tables.{Tables}
use Rattle.snap_work.specs.Works.{work_of}

-- The journal is that of log l of the run: since the log's device was opened it got what is written before a run, and nothing else.
pub record IsRunsJournal (r : TheRun) (l : ℕ) (lt : l < r.work.logs) (journal : LogState) : Type 0 where
  pub grew : GrewBy (device_at r.before (r.devices.head + l)).told journal.told (r.devices.each l lt).end (first_groups l r.devices.added) None
  pub gate : journal.end ≡ end_behind_groups (r.devices.each l lt).end (first_groups l r.devices.added)

-- This run is what acts have come to that began on these shares and left those: it is of the work and the opening of the tables, its
-- events are those that happened, the logs that failed are those that are shut, and the journals with which the acts began are its own.
pub record IsCrewsRun (r : TheRun) (t : Tables) (start : List ShareState) (acts : List Act) (end : List ShareState) : Type 0 where
  pub work : work_of t.work ≡ r.work
  pub opening : t.opening ≡ r.opening
  pub events : kept acts ≡ r.events
  pub failed : (l : ℕ) → l < r.work.logs → is_shut_at end l ≡ r.failed l
  pub logs : (l : ℕ) (lt : l < r.work.logs) → (x : ShareState) × (journal : LogState) × (slice_get start (log l) ≡ Some x) × (x.beside.journal ≡ Some journal) × IsRunsJournal r l lt journal

-- The same, as who hands logs to a crew and gets them back knows it: the run is of the work and the opening that the crew was handed, its
-- events are those that came back, the logs that failed are those that came back shut, and those that were handed over were opened
-- for it. These stood beside the shares with which the crew began, and what came back beside those that it left.
pub record IsRunOnLogs (r : TheRun) (t : Tables) (start : List ShareState) (acts : List Act) (end : List ShareState) : Type 0 where
  pub work : work_of t.work ≡ r.work
  pub opening : t.opening ≡ r.opening
  pub events : kept acts ≡ r.events
  pub old : List LogState
  pub new : List LogState
  pub before : OutputState
  pub after : OutputState
  pub begun : AreBeside old before start
  pub left : AreBeside new after end
  pub as_many : (length old ≡ r.work.logs) × (length new ≡ r.work.logs)
  pub failed : (l : ℕ) → l < r.work.logs → is_log_shut new l ≡ r.failed l
  pub opened : (l : ℕ) (lt : l < r.work.logs) → IsRunsJournal r l lt (log_at old l)
