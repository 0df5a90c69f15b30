-- Why the command that writes a checkpoint in place of old records answers what it answers.
use Rattle.std.specs.Prelude.{ℕ, ◌<◌, List, length}
use Rattle.command_words.specs.Words.{IsCompact}
use Rattle.log_compaction.specs.Compacted.{AreCompacted, IsCompactNo, IsTooMany, MayCompactLogs}
use Rattle.log_following.specs.log_opening.Devices.{Device, device_at}
use Rattle.log_following.specs.log_opening.declared.refusals.LogsNo.TheVariants as ending
use Rattle.log_following.specs.log_opening.log_compact.declared.folds.Folded.{Folded}
use Rattle.run_work.specs.run_recovery.Recoverable.{AreRecoverable}
use Rattle.run_work.specs.Writings.{Writing, WritesNothing, Writes, WritesFront}
use Rattle.snap_outside.specs.Causes.{Rose}
use Rattle.run_work.specs.run_opening.snap_recover.declared.causes.LogCause.{LogCause}
use Rattle.snap_report.specs.Lines.{compacted_text}
use Rattle.snap_report.specs.declared.statuses.Status.{Status}
use Rattle.snap_report.specs.declared.statuses.Status.TheVariants as status
use Rattle.snap_run.specs.Uses.{Use}
use Rattle.record_log.specs.txn_records.declared.records.Record.{Record}

-- the answers of the command that writes a checkpoint in place of old records
pub data IsCompactAnswer (before after : List Device) (out : Writing) : Status → Type 0 where
  compact_done : (generation : ℕ) → AreCompacted before after generation → Writes out (compacted_text generation) → IsCompactAnswer before after out status.Done
  compact_refused : (log offset : ℕ) (cause : LogCause) → IsCompactNo before after (ending.Refused log offset cause) → WritesNothing out
      → IsCompactAnswer before after out (status.Logs log offset cause)
  -- the logs in use are too many
  compact_too_many : (logs : ℕ) → IsTooMany before after logs → WritesNothing out → IsCompactAnswer before after out (status.Compact logs)
  compact_memory : IsCompactNo before after ending.Memory → WritesNothing out → IsCompactAnswer before after out status.Memory
  compact_log_fault : (log : ℕ) → log < 4 → IsCompactNo before after (ending.Device log) → WritesNothing out → IsCompactAnswer before after out (status.LogFault log)
  -- the output failed, and has taken a front of the line
  compact_out_fault : (generation : ℕ) → AreCompacted before after generation → WritesFront out (compacted_text generation) → Rose out.faults_before out.faults_after
      → IsCompactAnswer before after out status.OutFault

-- The words compact the logs; each device holds a log, and what those in use fold to is not refused; and no count rises.
pub record IsCompactable (u : Use) (lists : List (List Record)) : Type 0 where
  pub compact : IsCompact u.words
  pub recovers : (head : ℕ) × (f : Folded) × AreRecoverable u.devices_before head lists f × MayCompactLogs u.devices_before head (length lists) f
  pub devices : (log : ℕ) → log < length u.devices_before → ¬ Rose (device_at u.devices_before log).faults (device_at u.devices_after log).faults
  pub sink : ¬ Rose u.writing.faults_before u.writing.faults_after
