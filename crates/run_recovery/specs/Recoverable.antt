-- What the call that prints what the logs recover to goes by.
use Rattle.std.specs.Prelude.{ℕ, ◌+◌, ◌<◌, List, length}
use Rattle.machine_recovery.specs.compact_laws.log_compact.declared.folds.Folded.{Folded}
use Rattle.machine_recovery.specs.compact_laws.log_compact.Sets.{IsFolded}
use Rattle.run_opening.specs.log_opening.Devices.{Device, device_at}
use Rattle.run_opening.specs.log_opening.Kept.{AreUsed, records_at}
use Rattle.run_opening.specs.Opens.{TellsLog, TellsRecords}
use Rattle.record_log.specs.txn_records.declared.records.Record.{Record}

-- Each of the four devices tells that it holds a log; those in use, from the head on, hold these records, and these fold to this.
pub record AreRecoverable (devices : List Device) (head : ℕ) (lists : List (List Record)) (f : Folded) : Type 0 where
  pub generation : ℕ
  pub used : AreUsed 1 devices head (length lists) generation
  pub each : (d : ℕ) → d < 4 → TellsLog (device_at devices d)
  pub told : (l : ℕ) → l < length lists → TellsRecords (device_at devices (head + l)) (records_at lists l)
  pub folded : IsFolded lists f
