-- What the devices of a run show to a reader while it goes on, and what he reads there.
use Rattle.std.specs.Prelude.{◌≡◌, ℕ, ◌+◌, ◌<◌, Some, List, ◌++◌}
use Rattle.followed_runs.specs.Following.{Reading, what_is_read}
use Rattle.log_set.specs.Told.{all_told}
use Rattle.record_log.specs.Records.{HoldsRecords}
use Rattle.run_effects.specs.Made.{IsMade}
use Rattle.run_opening.specs.Opens.{first_groups, records_at}
use Rattle.log_opening.specs.Devices.{device_at}
use Rattle.run_recovery.specs.Crashes.{begun_on, earlier}
use Rattle.run_recovery.specs.OneRun.{TheRun, MomentOf, machine_in}
use Rattle.snap_outside.specs.declared.devices.DevOp.{DevOp}
use Rattle.snap_outside.specs.Disk.{DeviceHistory, IsImage, content, disk, disk_after}

-- At this moment the device of log l may show these bytes. It told its history as the run began; of its operations those of the moment are
-- made, with a part of the append that is under way, where one is; and of all that no sync has fixed yet the bytes are any mixture.
pub record IsShownAt (r : TheRun) (m : MomentOf r) (l : ℕ) (lt : l < r.work.logs) (bytes : List ℕ) : Type 0 where
  pub history : DeviceHistory
  pub told : (device_at r.before (r.devices.head + l)).told ≡ Some history
  pub made : List DevOp
  pub so_far : IsMade m l (content history) (r.devices.each l lt).end (first_groups l r.devices.added) (begun_on r l) made
  pub image : IsImage (disk_after made (disk history)) bytes

-- Of each log in use these bytes, device by device, are what a reader may find at some moment of the run: of each log at a moment of its own.
pub record IsReadingOf (r : TheRun) (bytes : ℕ → List ℕ) : Type 0 where
  pub moment : ℕ → MomentOf r
  pub each : (l : ℕ) (lt : l < r.work.logs) → IsShownAt r (moment l) l lt (bytes (r.devices.head + l))

-- Of each log in use the bytes hold the records from before the run, and behind them those that this reading of the machine's run reads,
-- which was made at the same moments.
pub record IsReadAs (r : TheRun) (bytes : ℕ → List ℕ) (x : IsReadingOf r bytes) : Type 0 where
  pub reading : Reading (machine_in r) r.events
  pub moments : (l : ℕ) → reading.events l ≡ (x.moment l).events
  pub holds : (l : ℕ) → l < r.work.logs → HoldsRecords (bytes (r.devices.head + l)) (records_at (earlier r) l ++ all_told (what_is_read reading l))
