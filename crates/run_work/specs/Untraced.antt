-- Only private contracts cite this; the answers are Runs.antt.
-- How a run of a work ends before its trace is written, by how a host ended, and what its trace makes of that.
use Rattle.std.specs.Prelude.{◌≡◌, ◌≢◌, ℕ, ◌+◌, ◌≤◌, ◌⊎◌, Bool, Result, Ok, Err, List, [], length}
use Rattle.snap_core.specs.aml_slice.Controls.{Rest}
use Rattle.snap_core.specs.core_events.declared.events.Event.{Event}
use Rattle.run_opening.specs.log_opening.declared.refusals.LogsNo.{LogsNo}
use Rattle.run_opening.specs.log_opening.declared.refusals.LogsNo.TheVariants as ending
use Rattle.protocol.specs.Events as machine
use Rattle.protocol.specs.Fixed.{Fixed}
use Rattle.run_recovery.specs.Runs.{meant, HasEnded}
use Rattle.run_printing.specs.Printed.{traced_line}
use Rattle.run_work.specs.Hosts.{WasRunOnDevices, LeftFailed, IsCoreOf, IsWithoutRun}
use Rattle.run_work.specs.Runs.{Printing, Printed, ending_by, RunUse, PrintsAll, PrintsEnding, PrintsWhole, PrintsNext, PrintsFailed, TellsUnsure, printed_of}
use Rattle.run_work.specs.Statuses.{logs_status}
use Rattle.run_work.specs.declared.hosts.Hosted.{Hosted}
use Rattle.run_work.specs.Writings.{Writing, WritesNothing, Writes, WritesFront, WritesLines}
use Rattle.snap_outside.specs.Causes.{Rose}
use Rattle.run_opening.specs.snap_recover.declared.openings.Opening.{Opening}
use Rattle.snap_report.specs.declared.statuses.Status.{Status}
use Rattle.snap_report.specs.declared.statuses.Status.TheVariants as status
use Rattle.solo_host.specs.run_effects.declared.stops.Stop.{Stop}
use Rattle.solo_host.specs.run_effects.declared.stops.Stop.TheVariants as stop
use Rattle.run_printing.specs.trace_text.Traces.{trace_of}
use Rattle.solo_host.specs.run_effects.Driven.{none_failed}

-- ---- behind a host

-- why a host stopped, with a log that failed named by its device, where log 0 lies on the head
abbrev pub by_device : ℕ → Stop → Stop
by_device head stop.Quiet = stop.Quiet
by_device head (stop.LogFault log) = stop.LogFault (head + log)
by_device head stop.OutFault = stop.OutFault
by_device head stop.Memory = stop.Memory

-- What is printed where a host ended so, a log named by its device, and how the run ends then.
abbrev pub IsEnding : Printing → Fixed Rest → List machine.Event → ℕ → Stop → Writing → Status → Type 0
IsEnding p m es count stop.Quiet out s =
    ((s ≡ status.Done) × Writes out (ending_by p m es))
    ⊎ (((s ≡ status.Memory) × WritesNothing out) ⊎ ((s ≡ status.OutFault) × Rose out.faults_before out.faults_after × WritesFront out (ending_by p m es)))
IsEnding p m es count (stop.LogFault log) out s = (s ≡ status.LogFault log) × TellsUnsure p log es count [] out
IsEnding p m es count stop.OutFault out s = (s ≡ status.OutFault) × WritesNothing out
IsEnding p m es count stop.Memory out s = (s ≡ status.Memory) × WritesNothing out

-- ---- how a run ended, where Left tells what it left on its logs, by those that failed

-- this device failed, which holds log l: it is the l-th one from the head on
abbrev pub HasLogFault : ((ℕ → Bool) → Type 0) → ℕ → Printed → ℕ → Type 0
HasLogFault Left head d device = (l : ℕ) × (device ≡ head + l) × LeftFailed Left d.work d.schedule d.opening d.events l

-- its log 0 lies on the head
abbrev pub IsRunEnd : ((ℕ → Bool) → Type 0) → ℕ → Printed → Status → Type 0
IsRunEnd Left head d status.Done = Left none_failed × HasEnded d.work d.opening d.events × PrintsAll d
IsRunEnd Left head d (status.Usage place) = ⊥
IsRunEnd Left head d (status.Input line cause) = ⊥
IsRunEnd Left head d (status.Logs log offset cause) = ⊥
IsRunEnd Left head d status.Memory = Left none_failed × PrintsWhole d
IsRunEnd Left head d status.ReadFault = ⊥
IsRunEnd Left head d (status.LogFault device) = HasLogFault Left head d device × PrintsFailed device d
IsRunEnd Left head d status.OutFault = Left none_failed × Rose d.out.faults_before d.out.faults_after × (PrintsNext d ⊎ PrintsEnding d)
IsRunEnd Left head d status.TraceFault = ⊥
IsRunEnd Left head d (status.Audit fault) = ⊥
IsRunEnd Left head d (status.Compact logs) = ⊥

-- ---- on all devices

-- What is printed where no run began. Where a log's device failed all transactions are told to be unsure.
abbrev pub IsToldUnbegun : Printing → ℕ → LogsNo → Writing → Type 0
IsToldUnbegun p count (ending.Refused log offset cause) out = WritesNothing out
IsToldUnbegun p count (ending.Device log) out = TellsUnsure p log [] count [] out
IsToldUnbegun p count ending.Memory out = WritesNothing out

-- no run began, for this reason
pub record IsNoBeginning (p : Printing) (r : RunUse) (why : LogsNo) : Type 0 where
  pub kept : r.kept ≡ []
  pub none : IsWithoutRun r.work r.devices_before r.devices_after why
  pub told : IsToldUnbegun p (length r.work.txs) why r.out

-- what a run left on its logs, which lie on the devices from the head on
abbrev pub RunLeft : RunUse → ℕ → Opening → (ℕ → Bool) → Type 0
RunLeft r head o failed = WasRunOnDevices r.work r.schedule head o (meant r.kept) r.devices_before r.devices_after failed

-- How a run of a work ended before its trace is written: none began, or one began and ended.
abbrev pub IsUntraced : Printing → RunUse → Status → Type 0
IsUntraced p r s =
    ((why : LogsNo) × IsNoBeginning p r why × (s ≡ logs_status why))
    ⊎ ((head : ℕ) × (o : Opening) × (head + r.work.logs ≤ 4) × IsRunEnd (RunLeft r head o) head (printed_of p r o (meant r.kept)) s)

-- ---- the trace

-- The trace is written, and the call ends as the run did; or some lines of it that come first are, and only that all was done is
-- changed.
abbrev pub IsTraced : Writing → List Event → Status → Status → Type 0
IsTraced trace kept before after =
    ((after ≡ before) × Writes trace (trace_of kept))
    ⊎ (WritesLines traced_line trace [] kept × (before ≢ status.Done → after ≡ before)
    × (before ≡ status.Done → (after ≡ status.Memory) ⊎ ((after ≡ status.TraceFault) × Rose trace.faults_before trace.faults_after)))

-- ---- from what a host left

-- How the run that a host made so, of so many transactions, ends before its trace.
pub record IsEndOf (p : Printing) (h : Hosted) (count : ℕ) (events : List Event) (out : Writing) (s : Status) : Type 0 where
  pub same : events ≡ h.kept.items
  pub ending : (m : Fixed Rest) → IsCoreOf m (meant h.kept.items) h.stop h.core → IsEnding p m (meant h.kept.items) count (by_device h.head h.stop) out s
  pub later : out.faults_before ≤ out.faults_after

-- how a call ends before its trace, where a run may not have begun
abbrev pub EndsUntraced : Printing → Result Hosted LogsNo → ℕ → List Event → Writing → Status → Type 0
EndsUntraced p (Ok h) count events out s = IsEndOf p h count events out s
EndsUntraced p (Err why) count events out s = (events ≡ []) × (s ≡ logs_status why) × IsToldUnbegun p count why out

-- how it ended before its trace, and how the call ends then
pub record IsCallEnd (p : Printing) (hosted : Result Hosted LogsNo) (count : ℕ) (events : List Event) (out trace : Writing) (s : Status) : Type 0 where
  pub before : Status
  pub untraced : EndsUntraced p hosted count events out before
  pub traced : IsTraced trace events before s
