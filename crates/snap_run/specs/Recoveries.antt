-- Why the command that prints what the logs recover to answers what it answers.
use Rattle.std.specs.Prelude.{ℕ, ◌<◌, List, ◌++◌, length}
use Rattle.snap_outside.specs.Causes.{Rose}
use Rattle.record_log.specs.txn_records.declared.records.Record.{Record}
use Rattle.run_work.specs.run_recovery.Recoverable.{AreRecoverable}
use Rattle.run_work.specs.run_opening.snap_recover.declared.causes.LogCause.{LogCause}
use Rattle.log_following.specs.log_opening.log_compact.declared.folds.Folded.{Folded}
use Rattle.log_following.specs.log_opening.log_compact.Sets.{IsFolded}
use Rattle.snap_report.specs.Lines.{actors_text, all_kept_text, recovered_text}
use Rattle.snap_report.specs.declared.statuses.Status.{Status}
use Rattle.snap_report.specs.declared.statuses.Status.TheVariants as status
use Rattle.log_following.specs.log_opening.Devices.{Device, device_at, AreOpened, LacksMemory}
use Rattle.log_following.specs.log_opening.Kept.{AreGiven, IsLogRefused, HasFailedDevice}
use Rattle.snap_run.specs.Uses.{Use}
use Rattle.run_work.specs.Writings.{Writing, WritesNothing, Writes, WritesFront}
use Rattle.command_words.specs.Words.{IsRecover}

-- the actors, what is kept since the checkpoint with its values, and what is recovered
abbrev pub recovered_report : Folded → List ℕ
recovered_report f = actors_text 0 f.opening.states ++ (all_kept_text f.opening.committed ++ recovered_text f.batches f.acts f.opening)

-- the logs in use fold to this, and all four were opened for it
pub record AreRecovered (before after : List Device) (f : Folded) : Type 0 where
  pub head : ℕ
  pub lists : List (List Record)
  pub given : AreGiven before head lists
  pub folded : IsFolded lists f
  pub opened : AreOpened 4 before after

-- the answers of the command that prints what the logs recover to
pub data IsRecoverAnswer (before after : List Device) (out : Writing) : Status → Type 0 where
  recover_done : (f : Folded) → AreRecovered before after f → Writes out (recovered_report f) → IsRecoverAnswer before after out status.Done
  recover_refused : (log offset : ℕ) (cause : LogCause) → IsLogRefused before after log offset cause → WritesNothing out
      → IsRecoverAnswer before after out (status.Logs log offset cause)
  recover_memory : LacksMemory (λ log. log < 4) before after → WritesNothing out → IsRecoverAnswer before after out status.Memory
  recover_log_fault : (log : ℕ) → HasFailedDevice before after log → WritesNothing out → IsRecoverAnswer before after out (status.LogFault log)
  -- the output failed, and has taken a front of the report
  recover_out_fault : (f : Folded) → AreRecovered before after f → WritesFront out (recovered_report f) → Rose out.faults_before out.faults_after
      → IsRecoverAnswer before after out status.OutFault

-- The words print what the logs recover to; each device holds a log, those in use hold these records, and recover; and no count rises.
pub record IsRecoverable (u : Use) (lists : List (List Record)) : Type 0 where
  pub recover : IsRecover u.words
  pub recovers : (head : ℕ) × (f : Folded) × AreRecoverable u.devices_before head lists f
  pub devices : (log : ℕ) → log < length u.devices_before → ¬ Rose (device_at u.devices_before log).faults (device_at u.devices_after log).faults
  pub sink : ¬ Rose u.writing.faults_before u.writing.faults_after
