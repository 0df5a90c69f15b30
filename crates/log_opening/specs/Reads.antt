-- What the steps of recovering leave, on the devices before and after. The rules are Kept.antt and Found.antt.
use Rattle.std.specs.Prelude.{◌≡◌, ℕ, ◌+◌, ◌<◌, ◌≤◌, List, length, map}
use Rattle.std.specs.List.{AllZip}
use Rattle.gate_log.specs.State.{LogState, log_at}
use Rattle.txn_records.specs.declared.records.Record.{Record}
use Rattle.log_compact.specs.declared.folds.Folded.{Folded}
use Rattle.log_compact.specs.Sets.{IsFolded}
use Rattle.log_opening.specs.declared.refusals.LogsNo.{LogsNo}
use Rattle.log_opening.specs.Counted.{IsAsideLog}
use Rattle.log_opening.specs.Devices.{Device, AreOpened, as_device, device_at}
use Rattle.log_opening.specs.Found.{IsTouched}
use Rattle.log_opening.specs.Kept.{AreGiven, IsLogsNo}

-- nothing is recovered, for this cause
pub record IsEnded (before after : List Device) (why : LogsNo) : Type 0 where
  pub cause : IsLogsNo before after why
  pub touched : AllZip IsTouched before after

-- the logs in use are decoded, and have these records
pub record AreRead (before after : List Device) (head : ℕ) (lists : List (List Record)) : Type 0 where
  pub given : AreGiven before head lists
  pub opened : AreOpened 4 before after
  pub touched : AllZip IsTouched before after

-- four logs are open, each on its device, which was only opened
pub record AreOpenOn (before : List Device) (logs : List LogState) : Type 0 where
  pub whole : length before ≡ 4
  pub many : length logs ≡ 4
  pub each : (d : ℕ) → d < 4 → IsAsideLog (device_at before d) (log_at logs d)

-- all are open, and those in use, which hold these records, fold to this
pub record IsOpenOn (before : List Device) (logs : List LogState) (head : ℕ) (lists : List (List Record)) (f : Folded) : Type 0 where
  pub read : AreRead before (map as_device logs) head lists
  pub within : head + length lists ≤ 4
  pub folded : IsFolded lists f
  pub open_logs : AreOpenOn before logs
