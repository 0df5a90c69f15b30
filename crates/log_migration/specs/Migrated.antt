-- What migrating logs leaves of their devices, and why they are not migrated.
use Rattle.std.specs.Prelude.{ℕ, ◌⊎◌, List, length, take, drop}
use Rattle.log_opening.specs.Devices.{Device, AreBegun, AreOpened}
use Rattle.log_opening.specs.Kept.{AreFolded, IsLogsNo}
use Rattle.log_opening.specs.Upgrades.{AreOld, FailsBeginning}
use Rattle.log_opening.specs.declared.refusals.LogsNo.{LogsNo}
use Rattle.log_opening.specs.declared.refusals.LogsNo.TheVariants as ending

-- So many of the logs in use were of format 1. Each is opened and is of format 2 now; the other devices are only opened.
pub record AreMigrated (before after : List Device) (count : ℕ) : Type 0 where
  pub logs : AreFolded before
  pub begun : AreBegun logs.head (length logs.lists) before after
  pub old : AreOld (take (length logs.lists) (drop logs.head before)) count

-- The upgrade of this log failed.
pub record FailsMigration (before after : List Device) (log : ℕ) : Type 0 where
  pub logs : AreFolded before
  pub fails : FailsBeginning logs.head (length logs.lists) before after log

-- There was no memory for what is to be told: all logs are only opened.
pub record LacksWords (before after : List Device) : Type 0 where
  pub logs : AreFolded before
  pub opened : AreOpened 4 before after

-- Why logs are not migrated. Nothing is upgraded but where an upgrade failed.
abbrev pub IsMigrateNo : List Device → List Device → LogsNo → Type 0
IsMigrateNo before after (ending.Device log) = IsLogsNo before after (ending.Device log) ⊎ FailsMigration before after log
IsMigrateNo before after ending.Memory = IsLogsNo before after ending.Memory ⊎ LacksWords before after
IsMigrateNo before after (ending.Refused log offset cause) = IsLogsNo before after (ending.Refused log offset cause)

-- why not all logs in use, so many from the head on, are of format 2: there was no memory for what is to be told, or an upgrade failed
abbrev pub IsNotTold : ℕ → ℕ → List Device → List Device → LogsNo → Type 0
IsNotTold head count before after (ending.Device log) = FailsBeginning head count before after log
IsNotTold head count before after ending.Memory = AreOpened 4 before after
IsNotTold head count before after (ending.Refused log offset cause) = ⊥
