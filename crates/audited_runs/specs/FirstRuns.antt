-- The first run of a work's text on its logs, and that its papers are in order.
use Rattle.std.specs.Prelude.{◌≡◌, ℕ, ◌<◌, ◌≤◌, List, [], length, Some}
use Rattle.audit_words.specs.Inputs.{IsInOrder, input_of}
use Rattle.audit_words.specs.Papers.{AreWhole, ended}
use Rattle.command_words.specs.Words.{IsRunCommand}
use Rattle.record_log.specs.txn_records.declared.records.Record.{Record}
use Rattle.run_opening.specs.Opens.{TellsRecords}
use Rattle.run_opening.specs.log_opening.Devices.{Device, device_at}
use Rattle.run_opening.specs.log_opening.log_compact.Sets.{IsHead}
use Rattle.run_recovery.specs.Schedules.{Schedule}
use Rattle.run_work.specs.Runs.{IsWorkAnswer}
use Rattle.run_work.specs.Writings.{Writing}
use Rattle.snap_run.specs.Answers.{ran_of}
use Rattle.snap_run.specs.Outcomes.{IsOutcome}
use Rattle.snap_run.specs.Uses.{Use}
use Rattle.run_work.specs.snap_base.declared.transactions.State.{State}
use Rattle.snap_report.specs.declared.statuses.Status.TheVariants as status
use Rattle.snap_work.specs.Works.{Work}
use Rattle.snap_work.specs.declared.limits.TheConstants.{LONGEST_WORK}
use Rattle.work_text.specs.Reads.{IsWork}

-- the device tells its records, by which it is no head
abbrev pub TellsNoHead : ℕ → Device → Type 0
TellsNoHead d device = (rs : List Record) × TellsRecords device rs × ((many : ℕ) (states : List State) → ¬ IsHead d rs many states)

-- Each of the first devices, so many as the work has logs, tells that it holds no record; and of the others none is a head.
pub record HoldNothing (w : Work) (before : List Device) : Type 0 where
  pub empty : (l : ℕ) → l < w.logs → TellsRecords (device_at before l) []
  pub others : (d : ℕ) → w.logs ≤ d → d < 3 → TellsNoHead d (device_at before d)

-- the sink was empty, and has taken these bytes
abbrev pub HasTaken : Writing → List ℕ → Type 0
HasTaken out bytes = (out.taken_before ≡ Some []) × (out.taken_after ≡ Some bytes)

-- The work's logs hold nothing, and no other device is a head; and the trace and the output, which were empty, have taken these bytes.
pub record BeganOnNothing (w : Work) (u : Use) (trace report : List ℕ) : Type 0 where
  pub empty : HoldNothing w u.devices_before
  pub traced : HasTaken u.tracing trace
  pub printed : HasTaken u.writing report

-- The words run the input; it is this text, which stands for the work; and the run of it began on nothing.
pub record IsFirstRun (w : Work) (u : Use) (text trace report : List ℕ) : Type 0 where
  pub run : (workers seed : ℕ) × IsRunCommand u.words workers seed
  pub known : u.reading.left_before ≡ Some text
  pub is_work : IsWork text w
  pub began : BeganOnNothing w u trace report

-- Text, trace and report are in order: with the text as it is, where it is of whole lines; and else with a line feed behind its last
-- line, where that does not make it longer than a text may be.
pub record AreInOrder (text trace report : List ℕ) : Type 0 where
  pub of_whole_lines : AreWhole text → IsInOrder (input_of text trace report)
  pub with_line_feed : ¬ AreWhole text → length (ended text) ≤ LONGEST_WORK → IsInOrder (input_of (ended text) trace report)

-- Where such a call ended with 0, text, trace and report are in order.
abbrev pub FirstRunsAreInOrder : Work → Type 0
FirstRunsAreInOrder w = (u : Use) (text trace report : List ℕ) → IsFirstRun w u text trace report → IsOutcome u status.Done → AreInOrder text trace report

-- Where a run of the work began on nothing, and ended with 0, each text that stands for the work is in order with trace and report. It
-- does not matter whether the source tells what it had.
abbrev pub WorkRunsAreInOrder : Work → Type 0
WorkRunsAreInOrder w =
    (u : Use) (schedule : Schedule) (text trace report : List ℕ)
    → IsWork text w → BeganOnNothing w u trace report → IsWorkAnswer (ran_of u w schedule) status.Done → AreInOrder text trace report
