-- Only private contracts cite this; the answers are Runs.antt.
-- What a host makes of a work, wherever its replies go: on open logs, and on all devices.
use Rattle.std.specs.Prelude.{◌≡◌, ℕ, ◌+◌, ◌<◌, ◌≤◌, ◌⊎◌, Bool, true, false, Option, None, Some, Result, Ok, Err, List, length, ⊤}
use Rattle.snap_core.specs.aml_slice.Controls.{Rest}
use Rattle.run_opening.specs.gate_log.State.{LogState}
use Rattle.run_opening.specs.log_opening.declared.refusals.LogsNo.{LogsNo}
use Rattle.run_opening.specs.log_opening.declared.refusals.LogsNo.TheVariants as ending
use Rattle.run_opening.specs.log_opening.Devices.{Device, device_at}
use Rattle.protocol.specs.Events as machine
use Rattle.protocol.specs.Fixed.{Fixed}
use Rattle.run_opening.specs.Opens.{AreSafe, IsNoRun, MayOpen}
use Rattle.solo_host.specs.run_effects.Driven.{IsDriven, tried_on, none_failed, only_failed}
use Rattle.solo_host.specs.run_effects.Groups.{groups_of, group_behind}
use Rattle.run_recovery.specs.Runs.{HasRunWork, machine_of, meant, IsLeastOf, GoesOnWith, HasEnded}
use Rattle.run_recovery.specs.Schedules.{Schedule, seeded, free, IsTakenBy}
use Rattle.run_work.specs.Runs.{Printing, Printed, reporting, summing, replies_in, PrintsNext, as_printed}
use Rattle.run_work.specs.Writings.{Writing, IsSilent, Writes}
use Rattle.run_work.specs.declared.hosts.Hosted.{Hosted}
use Rattle.snap_core.specs.Cores.{CoreState, IsAt}
use Rattle.snap_core.specs.snap_hand.Tables.{fixed_of}
use Rattle.snap_outside.specs.Causes.{Rose}
use Rattle.run_opening.specs.snap_recover.declared.openings.Opening.{Opening}
use Rattle.snap_work.specs.Works.{Work}
use Rattle.solo_host.specs.Drives.{log_at}
use Rattle.solo_host.specs.run_effects.declared.stops.Stop.{Stop}
use Rattle.solo_host.specs.run_effects.declared.stops.Stop.TheVariants as stop
use Rattle.run_opening.specs.txn_records.declared.records.Record.{Record}

-- ---- what it leaves on its logs

-- The events were taken by the schedule. Each of the open logs got a group for each of its Syncs, and each that failed a front of
-- one more; its count tells it.
pub record HasDriven (w : Work) (schedule : Schedule) (o : Opening) (es : List machine.Event) (old new : List LogState) (failed : ℕ → Bool) : Type 0 where
  pub front : IsTakenBy (machine_of w o) schedule es
  pub as_many : length new ≡ length old
  pub each : (l : ℕ) → l < length old → IsDriven (log_at old l) (log_at new l) (groups_of (machine_of w o) l es) (tried_on failed l (group_behind (machine_of w o) l es))
  pub rose : (l : ℕ) → failed l ≡ true → (l < length old) × Rose (log_at old l).faults (log_at new l).faults

-- A run of these events was made on the devices, its logs on those from the head on; each that failed tells it.
pub record WasRunOnDevices (w : Work) (schedule : Schedule) (head : ℕ) (o : Opening) (es : List machine.Event) (before after : List Device) (failed : ℕ → Bool) : Type 0 where
  pub run : HasRunWork w schedule o es failed before after
  pub first : run.devices.head ≡ head
  pub rose : (l : ℕ) → failed l ≡ true → (l < w.logs) × Rose (device_at before (head + l)).faults (device_at after (head + l)).faults

-- ---- how it ends

-- What it left, where the device of this log failed, if Left tells that by the logs that failed. One thread stops there, at its next
-- event. With several workers it is the least of those that failed, and the Sync of each of them could come.
abbrev pub LeftFailed : ((ℕ → Bool) → Type 0) → Work → Schedule → Opening → List machine.Event → ℕ → Type 0
LeftFailed Left w (seeded seed) o es log = Left (only_failed log) × GoesOnWith w (seeded seed) o es (machine.Sync log)
LeftFailed Left w free o es log = (failed : ℕ → Bool) × IsLeastOf failed log × Left failed × ((l : ℕ) → failed l ≡ true → GoesOnWith w free o es (machine.Sync l))

-- what it left, and why it stopped
abbrev pub IsStopOf : ((ℕ → Bool) → Type 0) → Printed → Stop → Type 0
IsStopOf Left d stop.Quiet = Left none_failed × HasEnded d.work d.opening d.events
IsStopOf Left d (stop.LogFault log) = LeftFailed Left d.work d.schedule d.opening d.events log
IsStopOf Left d stop.OutFault = Left none_failed × Rose d.out.faults_before d.out.faults_after
IsStopOf Left d stop.Memory = Left none_failed

-- the replies; where the output failed several workers too, these and a front of the next one
abbrev pub StoppedBy : Schedule → Printed → Type 0
StoppedBy (seeded seed) d = Writes d.out (replies_in d)
StoppedBy free d = Writes d.out (replies_in d) ⊎ (Rose d.out.faults_before d.out.faults_after × PrintsNext d)

abbrev pub PrintsStopped : Printed → Type 0
PrintsStopped d = StoppedBy d.schedule d

-- what its replies printed
abbrev pub PrintsReplies : Printed → Stop → Type 0
PrintsReplies d stop.Quiet = Writes d.out (replies_in d)
PrintsReplies d (stop.LogFault log) = PrintsStopped d
PrintsReplies d stop.OutFault = PrintsNext d
PrintsReplies d stop.Memory = Writes d.out (replies_in d)

-- both
pub record IsHostEnd (Left : (ℕ → Bool) → Type 0) (d : Printed) (by : Stop) : Type 0 where
  pub why : IsStopOf Left d by
  pub printed : PrintsReplies d by
  pub later : d.out.faults_before ≤ d.out.faults_after

-- the core to which these events have come, if there was memory for one
abbrev pub IsCoreOf : Fixed Rest → List machine.Event → Stop → Option CoreState → Type 0
IsCoreOf m es by None = by ≡ stop.Memory
IsCoreOf m es by (Some core) = (fixed_of core.tables ≡ m) × IsAt core es

-- ---- in one

-- where the output has not failed at the line of a reply, all replies are printed
abbrev pub PrintsUnlessFailed : Bool → Printed → Type 0
PrintsUnlessFailed failed d = failed ≡ false → Writes d.out (replies_in d)

-- Where it has, the host stopped for it, or for a log. It has not where no reply is printed.
abbrev pub StopsSo : Printing → Bool → Stop → Type 0
StopsSo summing failed by = failed ≡ false
StopsSo reporting failed stop.Quiet = failed ≡ false
StopsSo reporting failed (stop.LogFault log) = ⊤
StopsSo reporting failed stop.OutFault = failed ≡ true
StopsSo reporting failed stop.Memory = failed ≡ false

-- What a host made of a work from this opening, where Left tells what it left on its logs, by those that failed.
pub record IsMadeByHost (p : Printing) (Left : (ℕ → Bool) → Type 0) (w : Work) (schedule : Schedule) (o : Opening) (replies : Writing) (h : Hosted) : Type 0 where
  pub ends : IsHostEnd Left (as_printed p w schedule o (meant h.kept.items) replies) h.stop
  pub core : IsCoreOf (machine_of w o) (meant h.kept.items) h.stop h.core
  pub whole : PrintsUnlessFailed h.failed (as_printed p w schedule o (meant h.kept.items) replies)
  pub stops : StopsSo p h.failed h.stop

-- on open logs
abbrev pub IsHostedOn : Printing → Work → Schedule → Opening → List LogState → List LogState → Writing → Hosted → Type 0
IsHostedOn p w schedule o old new replies h = IsMadeByHost p (HasDriven w schedule o (meant h.kept.items) old new) w schedule o replies h

-- on all devices, which are four
pub record IsHosted (p : Printing) (w : Work) (schedule : Schedule) (before after : List Device) (replies : Writing) (h : Hosted) : Type 0 where
  pub opening : Opening
  pub within : h.head + w.logs ≤ 4
  pub made : IsMadeByHost p (WasRunOnDevices w schedule h.head opening (meant h.kept.items) before after) w schedule opening replies h

-- No run began, for this reason, and a crash at any moment loses no record of the logs in use. Where these hold records on which a run
-- begins, and none fails, it is want of memory.
pub record IsWithoutRun (w : Work) (before after : List Device) (why : LogsNo) : Type 0 where
  pub none : IsNoRun w.logs w.states before after why
  pub safe : AreSafe w.logs w.states before after
  pub complete : (records : List (List Record)) (o : Opening) → MayOpen w.logs w.states before after records o → why ≡ ending.Memory

-- What a host leaves of a work: what it made of it, or why no run began, and then the output got no call.
abbrev pub HasHosted : Printing → Work → Schedule → List Device → List Device → Writing → Result Hosted LogsNo → Type 0
HasHosted p w schedule before after replies (Ok h) = IsHosted p w schedule before after replies h
HasHosted p w schedule before after replies (Err why) = IsWithoutRun w before after why × IsSilent replies

-- its output has not failed at the line of a reply
abbrev pub HasStood : Result Hosted LogsNo → Type 0
HasStood (Ok h) = h.failed ≡ false
HasStood (Err why) = ⊤
