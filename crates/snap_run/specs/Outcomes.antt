-- What the top call promises of its answer and of the logs that it leaves.
use Rattle.std.specs.Prelude.{ℕ}
use Rattle.std.specs.List.{AllZip}
use Rattle.snap_report.specs.declared.statuses.Status.{Status}
use Rattle.record_log.specs.Records.{KeepsRecords}
use Rattle.log_following.specs.log_opening.Devices.{Device, IsOpenedAtMost}
use Rattle.command_words.specs.Words.{IsCompact, IsFollow, IsMigrate, IsRecover}
use Rattle.log_compaction.specs.Crashes.{CompactsSafely}
use Rattle.log_following.specs.Readings.{AreUntouched}
use Rattle.snap_run.specs.Uses.{Use}
use Rattle.snap_run.specs.Answers.{IsAnswer}

pub record IsOutcome (u : Use) (s : Status) : Type 0 where
  -- each answer has its cause, and tells what a run printed and what it left on its logs
  pub answer : IsAnswer u s
  -- the command that prints what the logs recover to makes the calls of opening alone
  pub opened : IsRecover u.words → AllZip IsOpenedAtMost u.devices_before u.devices_after
  -- a crash at any moment of it loses no record
  pub kept : IsRecover u.words → AllZip (λ (a b : Device). KeepsRecords a.told b.told) u.devices_before u.devices_after
  -- a crash at any moment of the command that makes logs of format 1 ones of format 2 loses no record, and the logs recover to what they did before
  pub migrated : IsMigrate u.words → AllZip (λ (a b : Device). KeepsRecords a.told b.told) u.devices_before u.devices_after
  -- at every crash in the command that writes a checkpoint, whatever is left of each device, the logs in use fold to what they folded to
  pub compacted : IsCompact u.words → CompactsSafely u.devices_before u.devices_after
  -- the command that follows the logs changes no device
  pub followed : (rounds : ℕ) → IsFollow u.words rounds → AreUntouched u.devices_before u.devices_after
