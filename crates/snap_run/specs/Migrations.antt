-- Why the command that makes those logs in use that are of format 1 ones of format 2 answers what it answers.
use Rattle.std.specs.Prelude.{ℕ, ◌<◌, List, length}
use Rattle.command_words.specs.Words.{IsMigrate}
use Rattle.log_migration.specs.Migrated.{AreMigrated, IsMigrateNo}
use Rattle.log_following.specs.log_opening.Devices.{Device, device_at}
use Rattle.log_following.specs.log_opening.declared.refusals.LogsNo.TheVariants as ending
use Rattle.run_work.specs.run_recovery.Recoverable.{AreRecoverable}
use Rattle.run_work.specs.Writings.{Writing, WritesNothing, Writes, WritesFront}
use Rattle.snap_outside.specs.Causes.{Rose}
use Rattle.run_work.specs.run_opening.snap_recover.declared.causes.LogCause.{LogCause}
use Rattle.log_following.specs.log_opening.log_compact.declared.folds.Folded.{Folded}
use Rattle.snap_report.specs.Lines.{migrated_text}
use Rattle.snap_report.specs.declared.statuses.Status.{Status}
use Rattle.snap_report.specs.declared.statuses.Status.TheVariants as status
use Rattle.snap_run.specs.Uses.{Use}
use Rattle.record_log.specs.txn_records.declared.records.Record.{Record}

-- the answers of the command that makes those logs in use that are of format 1 ones of format 2
pub data IsMigrateAnswer (before after : List Device) (out : Writing) : Status → Type 0 where
  migrate_done : (count : ℕ) → AreMigrated before after count → Writes out (migrated_text count) → IsMigrateAnswer before after out status.Done
  migrate_refused : (log offset : ℕ) (cause : LogCause) → IsMigrateNo before after (ending.Refused log offset cause) → WritesNothing out
      → IsMigrateAnswer before after out (status.Logs log offset cause)
  migrate_memory : IsMigrateNo before after ending.Memory → WritesNothing out → IsMigrateAnswer before after out status.Memory
  migrate_log_fault : (log : ℕ) → IsMigrateNo before after (ending.Device log) → WritesNothing out → IsMigrateAnswer before after out (status.LogFault log)
  -- the output failed, and has taken a front of the line
  migrate_out_fault : (count : ℕ) → AreMigrated before after count → WritesFront out (migrated_text count) → Rose out.faults_before out.faults_after
      → IsMigrateAnswer before after out status.OutFault

-- The words migrate the logs; each device holds a log, those in use hold these records, and recover; and no count rises.
pub record IsMigratable (u : Use) (lists : List (List Record)) : Type 0 where
  pub migrate : IsMigrate u.words
  pub recovers : (head : ℕ) × (f : Folded) × AreRecoverable u.devices_before head lists f
  pub devices : (log : ℕ) → log < length u.devices_before → ¬ Rose (device_at u.devices_before log).faults (device_at u.devices_after log).faults
  pub sink : ¬ Rose u.writing.faults_before u.writing.faults_after
