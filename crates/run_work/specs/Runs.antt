-- What a run of a work prints, and the answers of the commands that run one.
use Rattle.std.specs.Prelude.{◌≡◌, ◌≢◌, ℕ, ◌+◌, ◌<◌, ◌⊎◌, Bool, true, List, [], ◌++◌, length, Contains, ⊤}
use Rattle.snap_core.specs.aml_slice.Controls.{Rest}
use Rattle.snap_core.specs.core_events.declared.events.Event.{Event}
use Rattle.run_opening.specs.log_opening.declared.refusals.LogsNo.{LogsNo}
use Rattle.run_opening.specs.log_opening.declared.refusals.LogsNo.TheVariants as ending
use Rattle.run_opening.specs.log_opening.Devices.{Device, device_at}
use Rattle.protocol.specs.Events as machine
use Rattle.protocol.specs.Fixed.{Fixed}
use Rattle.protocol.specs.Report.{replied}
use Rattle.protocol.specs.Runs.{reached}
use Rattle.run_opening.specs.Opens.{AreSafe, IsNoRun}
use Rattle.solo_host.specs.run_effects.Driven.{none_failed, only_failed}
use Rattle.solo_host.specs.run_effects.Lines.{line_in, replies_text, ending_text}
use Rattle.run_printing.specs.Printed.{traced_line, unanswered, unsure_line}
use Rattle.run_printing.specs.Summed.{summing_text}
use Rattle.run_recovery.specs.OneRun.{the_run}
use Rattle.run_recovery.specs.Runs.{machine_of, meant, IsLeastOf, HasRunWork, GoesOnWith, HasEnded}
use Rattle.run_recovery.specs.Schedules.{Schedule, seeded, free}
use Rattle.run_recovery.specs.Stands.{RunStands}
use Rattle.run_work.specs.Writings.{Writing, WritesNothing, Writes, WritesBehind, WritesLines}
use Rattle.snap_outside.specs.Causes.{Rose}
use Rattle.run_opening.specs.snap_recover.declared.openings.Opening.{Opening}
use Rattle.snap_report.specs.declared.statuses.Status.{Status}
use Rattle.snap_report.specs.declared.statuses.Status.TheVariants as status
use Rattle.snap_work.specs.Works.{Work}
use Rattle.run_printing.specs.trace_text.Traces.{trace_of}

-- ---- what it prints

-- The replies as they come, then the actors and the end; or the summary alone.
pub data Printing : Type 0 where
  reporting : Printing
  summing : Printing

-- what the replies of a run print
abbrev pub replies_by : Printing → Fixed Rest → List machine.Event → List ℕ
replies_by reporting m es = replies_text m es
replies_by summing m es = []

-- what is printed behind them, where the run has ended
abbrev pub ending_by : Printing → Fixed Rest → List machine.Event → List ℕ
ending_by reporting m es = ending_text m es
ending_by summing m es = summing_text m es

-- who is told, where a log's device failed, that it is not known whether they are committed: of so many transactions
abbrev pub unsure_by : Printing → List machine.Event → ℕ → List ℕ
unsure_by reporting es count = unanswered es count
unsure_by summing es count = []

-- behind these bytes the lines of those who are told so, where the device of this log failed
abbrev pub TellsUnsure : Printing → ℕ → List machine.Event → ℕ → List ℕ → Writing → Type 0
TellsUnsure p log es count before out = WritesLines (unsure_line log) out before (unsure_by p es count)

-- What was printed of a run: what it prints, the run as it began and the events that it took, and what was written to the output.
pub record Printed : Type 0 where
  pub printing : Printing
  pub work : Work
  pub schedule : Schedule
  pub opening : Opening
  pub events : List machine.Event
  pub out : Writing

abbrev pub as_printed : Printing → Work → Schedule → Opening → List machine.Event → Writing → Printed
as_printed p w schedule o es out = record { printing = p; work = w; schedule = schedule; opening = o; events = es; out = out }

-- what its replies print
abbrev pub replies_in : Printed → List ℕ
replies_in d = replies_by d.printing (machine_of d.work d.opening) d.events

-- what is printed behind them, where it has ended
abbrev pub ending_in : Printed → List ℕ
ending_in d = ending_by d.printing (machine_of d.work d.opening) d.events

-- all of it
abbrev pub PrintsAll : Printed → Type 0
PrintsAll d = Writes d.out (replies_in d ++ ending_in d)

-- the run has ended, and behind the replies a front of what comes behind them is printed
abbrev pub PrintsEnding : Printed → Type 0
PrintsEnding d = HasEnded d.work d.opening d.events × WritesBehind d.out (replies_in d) (ending_in d)

-- the replies alone, or where the run has ended all of it
abbrev pub PrintsWhole : Printed → Type 0
PrintsWhole d = Writes d.out (replies_in d) ⊎ (HasEnded d.work d.opening d.events × PrintsAll d)

-- the replies, and a front of the line of the Reply that comes next; a summary has none
abbrev pub CutsNext : Printing → Printed → Type 0
CutsNext reporting d =
    (n : ℕ) × GoesOnWith d.work d.schedule d.opening d.events (machine.Reply n)
    × WritesBehind d.out (replies_text (machine_of d.work d.opening) d.events) (line_in (reached (machine_of d.work d.opening) d.events) n)
CutsNext summing d = ⊥

abbrev pub PrintsNext : Printed → Type 0
PrintsNext d = CutsNext d.printing d

-- the replies, and the lines of those that have none
abbrev pub PrintsUnsure : ℕ → Printed → Type 0
PrintsUnsure log d = TellsUnsure d.printing log d.events (length d.work.txs) (replies_in d) d.out

-- What is printed where the device of this log failed. With several workers the output may have failed too, and then nothing
-- comes behind a front of the next reply.
abbrev pub FailsBy : Schedule → ℕ → Printed → Type 0
FailsBy (seeded seed) log d = PrintsUnsure log d
FailsBy free log d = PrintsUnsure log d ⊎ (Rose d.out.faults_before d.out.faults_after × PrintsNext d)

abbrev pub PrintsFailed : ℕ → Printed → Type 0
PrintsFailed log d = FailsBy d.schedule log d

-- each of so many transactions has its Reply among these events
abbrev pub EachHasReply : ℕ → List machine.Event → Type 0
EachHasReply count es = (n : ℕ) → n < count → Contains (replied es) n

-- no event is allowed any more, and each transaction has its Reply among the events
abbrev pub HasAnswered : Work → Opening → List machine.Event → Type 0
HasAnswered w o es = HasEnded w o es × EachHasReply (length w.txs) es

-- ---- the answers

-- What a call was given and what it left, of a run of this work by this schedule.
pub record RunUse : Type 0 where
  pub work : Work
  pub schedule : Schedule
  pub kept : List Event
  pub devices_before : List Device
  pub devices_after : List Device
  pub out : Writing
  pub trace : Writing

-- what was printed of it, where it began with this opening and took these events
abbrev pub printed_of : Printing → RunUse → Opening → List machine.Event → Printed
printed_of p r o es = as_printed p r.work r.schedule o es r.out

-- no run began, for this reason; nothing was traced; and a crash at any moment of the call loses no record of the logs in use
abbrev pub HasNotBegun : RunUse → LogsNo → Type 0
HasNotBegun r why =
    (r.kept ≡ []) × IsNoRun r.work.logs r.work.states r.devices_before r.devices_after why × WritesNothing r.trace
    × AreSafe r.work.logs r.work.states r.devices_before r.devices_after

-- A run began, and what the laws of the machine say of it holds: of its committed transactions, of what they are told, and of
-- what a crash leaves at any moment of it. P holds of the device of its log 0, of what it began with and of its events. Its trace is
-- written, or some lines of it that come first.
abbrev pub HasBegunOn : RunUse → (ℕ → Bool) → (ℕ → Opening → List machine.Event → Type 0) → Type 0
HasBegunOn r failed P =
    (o : Opening) × (run : HasRunWork r.work r.schedule o (meant r.kept) failed r.devices_before r.devices_after) × RunStands (the_run run)
    × P run.devices.head o (meant r.kept) × WritesLines traced_line r.trace [] r.kept

-- the same where it does not matter which devices hold its logs
abbrev pub HasBegun : RunUse → (ℕ → Bool) → (Opening → List machine.Event → Type 0) → Type 0
HasBegun r failed P = HasBegunOn r failed (λ head o es. P o es)

abbrev pub LogRose : RunUse → ℕ → Type 0
LogRose r log = Rose (device_at r.devices_before log).faults (device_at r.devices_after log).faults

-- each log that failed is one of the work's, its device's count rose, and its Sync could come
abbrev pub EachFailed : RunUse → ℕ → (ℕ → Bool) → Opening → List machine.Event → Type 0
EachFailed r head failed o es = (l : ℕ) → failed l ≡ true → (l < r.work.logs) × LogRose r (head + l) × GoesOnWith r.work free o es (machine.Sync l)

-- A run began, and ended since this device failed, which holds log l: it is the l-th one from the head on. One thread stops there, at its
-- next event, so no other log failed. With several workers others may have failed too, and it is the least of them.
abbrev pub HasFailed : RunUse → Schedule → ℕ → (Opening → List machine.Event → Type 0) → Type 0
HasFailed r (seeded seed) device P =
    (l : ℕ) × HasBegunOn r (only_failed l) (λ head o es. (device ≡ head + l) × GoesOnWith r.work (seeded seed) o es (machine.Sync l) × P o es)
HasFailed r free device P =
    (failed : ℕ → Bool) × (l : ℕ) × IsLeastOf failed l × HasBegunOn r failed (λ head o es. (device ≡ head + l) × EachFailed r head failed o es × P o es)

abbrev pub IsAnswerOf : Printing → RunUse → Status → Type 0
IsAnswerOf p r status.Done = HasBegun r none_failed (λ o es. HasAnswered r.work o es × PrintsAll (printed_of p r o es)) × Writes r.trace (trace_of r.kept)
IsAnswerOf p r (status.Usage place) = ⊥
IsAnswerOf p r (status.Input line cause) = ⊥
IsAnswerOf p r (status.Logs log offset cause) = HasNotBegun r (ending.Refused log offset cause) × WritesNothing r.out
IsAnswerOf p r status.Memory = (HasNotBegun r ending.Memory × WritesNothing r.out) ⊎ HasBegun r none_failed (λ o es. PrintsWhole (printed_of p r o es))
IsAnswerOf p r status.ReadFault = ⊥
IsAnswerOf p r (status.LogFault log) =
    LogRose r log
    × ((HasNotBegun r (ending.Device log) × TellsUnsure p log [] (length r.work.txs) [] r.out)
    ⊎ HasFailed r r.schedule log (λ o es. PrintsFailed log (printed_of p r o es)))
IsAnswerOf p r status.OutFault =
    Rose r.out.faults_before r.out.faults_after × HasBegun r none_failed (λ o es. PrintsNext (printed_of p r o es) ⊎ PrintsEnding (printed_of p r o es))
IsAnswerOf p r status.TraceFault =
    Rose r.trace.faults_before r.trace.faults_after × HasBegun r none_failed (λ o es. HasAnswered r.work o es × PrintsAll (printed_of p r o es))
IsAnswerOf p r (status.Audit fault) = ⊥
IsAnswerOf p r (status.Compact logs) = ⊥

-- of the command that prints the report
abbrev pub IsWorkAnswer : RunUse → Status → Type 0
IsWorkAnswer r s = IsAnswerOf reporting r s

-- of the one that prints the summary
abbrev pub IsBenchAnswer : RunUse → Status → Type 0
IsBenchAnswer r s = IsAnswerOf summing r s

-- ---- what stands in the way

-- a log of the run is refused, or its device failed
abbrev pub IsOfLogs : Status → Type 0
IsOfLogs status.Done = ⊥
IsOfLogs (status.Usage place) = ⊥
IsOfLogs (status.Input line cause) = ⊥
IsOfLogs (status.Logs log offset cause) = ⊤
IsOfLogs status.Memory = ⊥
IsOfLogs status.ReadFault = ⊥
IsOfLogs (status.LogFault log) = ⊤
IsOfLogs status.OutFault = ⊥
IsOfLogs status.TraceFault = ⊥
IsOfLogs (status.Audit fault) = ⊥
IsOfLogs (status.Compact logs) = ⊥

-- ---- whether the output failed

-- The status tells that it did not. A log's fault may hide that it did.
abbrev pub OutStood : Status → Type 0
OutStood s = (s ≢ status.OutFault) × ((log : ℕ) → s ≢ status.LogFault log)

-- By what is printed, the status tells that it did not: where it is the summary alone, nothing is printed behind a log's fault, so
-- such a fault hides none.
abbrev pub OutStoodOf : Printing → Status → Type 0
OutStoodOf reporting s = OutStood s
OutStoodOf summing s = s ≢ status.OutFault
