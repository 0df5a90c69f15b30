-- The answers of the commands that recover the logs.
use Rattle.std.proofs.Common.{◌≡◌, ◌<◌, inl, inr, ℕ, zero, suc, List, [], ◌∷◌, length, arith}
use Rattle.log_compaction.specs.Compacted.{IsCompactNo}
use Rattle.log_following.specs.log_opening.Devices.{Device, device_at}
use Rattle.log_following.specs.log_opening.Kept.{IsLogsNo}
use Rattle.log_following.specs.log_opening.declared.refusals.LogsNo.{LogsNo}
use Rattle.log_following.specs.log_opening.declared.refusals.LogsNo.TheVariants as ending
use Rattle.snap_report.specs.declared.statuses.Status.{Status}
use Rattle.run_work.specs.Statuses.{logs_status}
use Rattle.run_work.specs.Writings.{Writing, WritesNothing}
use Rattle.log_migration.specs.Migrated.{IsMigrateNo}
use Rattle.snap_outside.specs.Causes.{Rose}
use Rattle.log_following.specs.Followed.{IsFollowNo}
use Rattle.snap_run.specs.Followings.{IsFollowAnswer, follow_refused, follow_memory, follow_log_fault}
use Rattle.snap_run.specs.Compactions.{IsCompactAnswer, compact_refused, compact_memory, compact_log_fault}
use Rattle.snap_run.specs.Migrations.{IsMigrateAnswer, migrate_refused, migrate_memory, migrate_log_fault}
use Rattle.snap_run.specs.Recoveries.{IsRecoverAnswer, recover_refused, recover_memory, recover_log_fault}

pub recovery_refused : (before after : List Device) (out : Writing) (no : LogsNo) (s : Status) → s ≡ logs_status no → IsLogsNo before after no → WritesNothing out → IsRecoverAnswer before after out s
recovery_refused before after out (ending.Refused log offset cause) s same is nothing = rw same (recover_refused log offset cause is nothing)
recovery_refused before after out (ending.Device log) s same is nothing = rw same (recover_log_fault log is nothing)
recovery_refused before after out ending.Memory s same is nothing = rw same (recover_memory is nothing)

pub following_refused : (rounds : ℕ) (before after : List Device) (out : Writing) (no : LogsNo) (s : Status) → s ≡ logs_status no → IsFollowNo rounds before after no → WritesNothing out
    → IsFollowAnswer rounds before after out s
following_refused rounds before after out (ending.Refused log offset cause) s same is nothing = rw same (follow_refused log offset cause is nothing)
following_refused rounds before after out (ending.Device log) s same is nothing = rw same (follow_log_fault log is nothing)
following_refused rounds before after out ending.Memory s same is nothing = rw same (follow_memory nothing)

pub migration_refused : (before after : List Device) (out : Writing) (no : LogsNo) (s : Status) → s ≡ logs_status no → IsMigrateNo before after no → WritesNothing out → IsMigrateAnswer before after out s
migration_refused before after out (ending.Refused log offset cause) s same is nothing = rw same (migrate_refused log offset cause is nothing)
migration_refused before after out (ending.Device log) s same is nothing = rw same (migrate_log_fault log is nothing)
migration_refused before after out ending.Memory s same is nothing = rw same (migrate_memory is nothing)

-- a device whose count rose is there
rose_there : (before after : List Device) (log : ℕ) → length after ≡ length before → Rose (device_at before log).faults (device_at after log).faults → log < length before
rose_there [] [] zero long rose = absurd (omega (arith, rose))
rose_there [] [] (suc log) long rose = absurd (omega (arith, rose))
rose_there [] (a ∷ after) log long rose = absurd (omega (arith, long))
rose_there (b ∷ before) [] log long rose = absurd (omega (arith, long))
rose_there (b ∷ before) (a ∷ after) zero long rose = omega arith
rose_there (b ∷ before) (a ∷ after) (suc log) long rose = let there = rose_there before after log (omega (arith, long)) rose in omega (arith, there)

fault_there : (before after : List Device) (log : ℕ) → length before ≡ 4 → length after ≡ 4 → IsCompactNo before after (ending.Device log) → log < 4
fault_there before after log many long (inl failed) = failed.not_opened.there
fault_there before after log many long (inr begun) = let there = rose_there before after log (omega (arith, many, long)) begun.1 in omega (arith, there, many)

pub compaction_refused : (before after : List Device) (out : Writing) (no : LogsNo) (s : Status) → length before ≡ 4 → length after ≡ 4 → s ≡ logs_status no → IsCompactNo before after no → WritesNothing out
    → IsCompactAnswer before after out s
compaction_refused before after out (ending.Refused log offset cause) s many long same is nothing = rw same (compact_refused log offset cause is nothing)
compaction_refused before after out (ending.Device log) s many long same is nothing = rw same (compact_log_fault log (fault_there before after log many long is) is nothing)
compaction_refused before after out ending.Memory s many long same is nothing = rw same (compact_memory is nothing)
