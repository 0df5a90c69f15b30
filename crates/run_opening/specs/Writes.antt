-- Only private contracts cite this; the rules are Opens.antt.
-- What is done to open logs before a run, and what it leaves of them.
use Rattle.std.specs.Prelude.{◌≡◌, ◌≢◌, ℕ, ◌+◌, ◌<◌, ◌≤◌, ◌⊎◌, List, [], length, take, drop, false}
use Rattle.std.specs.List.{AllByRecursion, AllZip}
use Rattle.snap_base.specs.declared.transactions.State.{State}
use Rattle.snap_outside.specs.Causes.{Rose}
use Rattle.snap_outside.specs.Disk.{AddsAll, AddsUpToFault}
use Rattle.gate_log.specs.declared.logs.AppendNo.{AppendNo}
use Rattle.gate_log.specs.declared.logs.AppendNo.TheVariants as append
use Rattle.gate_log.specs.Appends.{append_ops, end_behind}
use Rattle.gate_log.specs.declared.limits.TheConstants.{FARTHEST_END}
use Rattle.gate_log.specs.State.{LogState, IsUntouched, log_at}
use Rattle.txn_records.specs.declared.records.Record.{Record}
use Rattle.txn_records.specs.Records.{IsState}
use Rattle.record_log.specs.Growth.{MayAppendGroup}
use Rattle.record_log.specs.Records.{spelled, AppendsRecords, CrashesRecords}
use Rattle.snap_recover.specs.declared.openings.Opening.{Opening}
use Rattle.log_compact.specs.Sides.{IsCleared, IsClearFailed}
use Rattle.log_opening.specs.Devices.{Device, IsToBeCleared}
use Rattle.log_opening.specs.declared.refusals.LogsNo.{LogsNo}
use Rattle.log_opening.specs.declared.refusals.LogsNo.TheVariants as ending
use Rattle.run_opening.specs.declared.limits.TheConstants.{LARGEST_START}
use Rattle.run_opening.specs.Opens.{HasRoomToBegin, OpensRun, IsNoRun, AreSafe}

-- the records are written, as one group
pub record IsWritten (before after : LogState) (added : List Record) : Type 0 where
  pub may : MayAppendGroup before.end added
  pub appended : AppendsRecords before.told after.told before.end after.end added
  pub crashes : CrashesRecords before.told after.told before.end added
  pub adds : AddsAll before.told after.told (append_ops before.end (spelled added))
  pub gate : after.end ≡ end_behind before.end (spelled added)
  pub little : after.end ≤ before.end + LARGEST_START
  pub nothing : added ≡ [] → IsUntouched before after
  pub format : after.format ≡ before.format
  pub ready : after.shut ≡ false
  pub later : before.faults ≤ after.faults

-- an append to log 0 that is refused, in the words of opening
abbrev pub no_of_append : AppendNo → LogsNo
no_of_append append.Device = ending.Device 0
no_of_append append.Shut = ending.Device 0
no_of_append append.Memory = ending.Memory

-- there was no memory, and nothing was done; or the device failed while something was written
pub record IsNotWritten (before after : LogState) (added : List Record) (no : LogsNo) : Type 0 where
  pub may : MayAppendGroup before.end added
  pub why : ((no ≡ ending.Memory) × IsUntouched before after)
      ⊎ ((no ≡ ending.Device 0) × (added ≢ []) × Rose before.faults after.faults
      × AddsUpToFault before.told after.told (append_ops before.end (spelled added)))
  pub crashes : CrashesRecords before.told after.told before.end added
  pub later : before.faults ≤ after.faults

-- ---- of four logs

-- the logs in use, so many from the head on
abbrev pub logs_in_use : ℕ → ℕ → List LogState → List LogState
logs_in_use head count logs = take count (drop head logs)

-- the logs of the other side are cleared, where they are to be, and all others are as they were
pub record IsSideCleared (head count generation : ℕ) (old new : List LogState) : Type 0 where
  pub many : length new ≡ length old
  pub cleared : (d : ℕ) → IsToBeCleared head count generation d → IsCleared (log_at old d) (log_at new d)
  pub same : (d : ℕ) → ¬ IsToBeCleared head count generation d → log_at new d ≡ log_at old d

-- The clearing of this log of the other side met a failing device. Those below it on that side are cleared, and all others are as they were.
pub record IsSideCutOff (head count generation n : ℕ) (old new : List LogState) : Type 0 where
  pub many : length new ≡ length old
  pub asked : IsToBeCleared head count generation n
  pub failed : IsClearFailed (log_at old n) (log_at new n)
  pub below : (d : ℕ) → IsToBeCleared head count generation d → d < n → IsCleared (log_at old d) (log_at new d)
  pub above : (d : ℕ) → IsToBeCleared head count generation d → n < d → log_at new d ≡ log_at old d
  pub same : (d : ℕ) → ¬ IsToBeCleared head count generation d → log_at new d ≡ log_at old d

-- the records are written to log 0, and all others are as they were
pub record IsFirstWritten (old new : List LogState) (added : List Record) : Type 0 where
  pub many : length new ≡ length old
  pub written : IsWritten (log_at old 0) (log_at new 0) added
  pub others : (d : ℕ) → d ≢ 0 → log_at new d ≡ log_at old d

-- they are not written to log 0, and all others are as they were
pub record IsFirstNotWritten (old new : List LogState) (added : List Record) (no : LogsNo) : Type 0 where
  pub many : length new ≡ length old
  pub not_written : IsNotWritten (log_at old 0) (log_at new 0) added no
  pub others : (d : ℕ) → d ≢ 0 → log_at new d ≡ log_at old d

-- Where there is nothing to write, the other side is cleared; and else that is written.
abbrev pub ArePrepared : ℕ → ℕ → ℕ → List Record → List LogState → List LogState → Type 0
ArePrepared head count generation added old new =
    ((added ≡ []) × IsSideCleared head count generation old new) ⊎ ((added ≢ []) × IsFirstWritten old new added)

-- the other side is not cleared, or what is to be written is not written
abbrev pub AreNotPrepared : ℕ → ℕ → ℕ → List Record → List LogState → List LogState → LogsNo → Type 0
AreNotPrepared head count generation added old new answer =
    ((added ≡ []) × ((n : ℕ) × (answer ≡ ending.Device n) × IsSideCutOff head count generation n old new))
    ⊎ ((added ≢ []) × IsFirstNotWritten old new added answer)

-- ---- of a run

-- The run begins on these open logs, log 0 of which lies on the head.
pub record HasOpenedRun (count : ℕ) (states : List State) (before after : List Device) (head : ℕ) (logs : List LogState) (o : Opening) : Type 0 where
  pub opens : (records : List (List Record)) × (added : List Record) × (length records ≡ count) × OpensRun before after head logs states o records added
  pub room : HasRoomToBegin o
  pub actors : length o.states ≡ length states
  pub kept : AllByRecursion IsState o.states
  pub ends : (n : ℕ) → n < count → (log_at logs n).end ≤ FARTHEST_END + LARGEST_START
  pub safe : AreSafe count states before after
  pub later : AllZip (λ (b a : Device). b.faults ≤ a.faults) before after

-- No run begins.
pub record HasOpenedNoRun (count : ℕ) (states : List State) (before after : List Device) (no : LogsNo) : Type 0 where
  pub why : IsNoRun count states before after no
  pub safe : AreSafe count states before after
  pub later : AllZip (λ (b a : Device). b.faults ≤ a.faults) before after
