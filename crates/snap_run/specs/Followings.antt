-- Why the command that follows the logs answers what it answers.
use Rattle.std.specs.Prelude.{◌≡◌, ℕ, ◌<◌, List, ◌++◌, length}
use Rattle.command_words.specs.Words.{IsFollow}
use Rattle.log_following.specs.declared.following.Followed.{Followed}
use Rattle.log_following.specs.Followed.{AreFollowed, HoldSet, IsFollowNo, TellsFollowed}
use Rattle.log_following.specs.snap_follow.Rounds.{Following}
use Rattle.log_following.specs.log_opening.Devices.{Device, device_at}
use Rattle.log_following.specs.log_opening.declared.refusals.LogsNo.TheVariants as ending
use Rattle.log_following.specs.log_opening.log_compact.declared.folds.Folded.{Folded}
use Rattle.run_work.specs.run_recovery.Recoverable.{AreRecoverable}
use Rattle.run_work.specs.run_opening.snap_recover.declared.causes.LogCause.{LogCause}
use Rattle.run_work.specs.Writings.{Writing, WritesNothing, Writes, WritesFront}
use Rattle.snap_outside.specs.Causes.{Rose}
use Rattle.snap_report.specs.Lines.{actors_text, following_text}
use Rattle.snap_report.specs.declared.statuses.Status.{Status}
use Rattle.snap_report.specs.declared.statuses.Status.TheVariants as status
use Rattle.snap_run.specs.Uses.{Use}
use Rattle.record_log.specs.txn_records.declared.records.Record.{Record}

-- the actors, and how much the follower has taken in
abbrev pub following_report : Followed → List ℕ
following_report f = actors_text 0 f.states ++ following_text f.batches f.acts

-- so many rounds were made over readings of the logs in use, and this is what the follower has then
abbrev pub HasFollowed : ℕ → List Device → Followed → Type 0
HasFollowed rounds before f = (known : Following) × AreFollowed rounds before known × TellsFollowed known f

-- the answers of the command that follows the logs
pub data IsFollowAnswer (rounds : ℕ) (before after : List Device) (out : Writing) : Status → Type 0 where
  follow_done : (f : Followed) → HasFollowed rounds before f → Writes out (following_report f) → IsFollowAnswer rounds before after out status.Done
  follow_refused : (log offset : ℕ) (cause : LogCause) → IsFollowNo rounds before after (ending.Refused log offset cause) → WritesNothing out
      → IsFollowAnswer rounds before after out (status.Logs log offset cause)
  follow_memory : WritesNothing out → IsFollowAnswer rounds before after out status.Memory
  follow_log_fault : (log : ℕ) → IsFollowNo rounds before after (ending.Device log) → WritesNothing out → IsFollowAnswer rounds before after out (status.LogFault log)
  -- the output failed, and has taken a front of the report
  follow_out_fault : (f : Followed) → HasFollowed rounds before f → WritesFront out (following_report f) → Rose out.faults_before out.faults_after
      → IsFollowAnswer rounds before after out status.OutFault

-- The words follow the logs; each device holds a log, the logs in use, which are a set, hold these records, and recover; and no count
-- rises. That they are a set is asked besides, since logs recover too where Genesis does not stand in front of the first of them: then no
-- device is a head, and who follows answers that there is no Genesis.
pub record IsFollowable (u : Use) (lists : List (List Record)) : Type 0 where
  pub follow : (rounds : ℕ) × IsFollow u.words rounds
  pub recovers : (head : ℕ) × (f : Folded) × AreRecoverable u.devices_before head lists f
  pub set : (head count generation : ℕ) × HoldSet u.devices_before head count generation
  pub devices : (log : ℕ) → log < length u.devices_before → ¬ Rose (device_at u.devices_before log).faults (device_at u.devices_after log).faults
  pub sink : ¬ Rose u.writing.faults_before u.writing.faults_after
