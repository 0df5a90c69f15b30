-- What a call is handed and gives back, by what a host left and how it ended then.
use Rattle.std.proofs.Common.{◌≡◌, ℕ, List, [], Result, length, sym, subst}
use Rattle.std.proofs.KnownBytes.{Keeps-refl}
use Rattle.std.specs.Global.{Vec}
use Rattle.std.specs.Io.KnownBytes.{Keeps}
use Rattle.snap_core.specs.core_events.declared.events.Event.{Event}
use Rattle.run_opening.specs.log_opening.Devices.{Device, devices_of}
use Rattle.run_opening.specs.log_opening.declared.refusals.LogsNo.{LogsNo}
use Rattle.run_opening.specs.Opens.{MayOpen}
use Rattle.run_recovery.specs.Schedules.{Schedule}
use Rattle.run_work.proofs.Answered.{EachStands, MarksAreReplies, call_answer, call_not_of_logs}
use Rattle.run_work.proofs.AtFault.{call_once}
use Rattle.run_work.proofs.Ending.{StopsAtFault}
use Rattle.run_work.specs.Calls.{CallState, call_of, ran_by}
use Rattle.run_work.specs.Hosts.{HasHosted, HasStood}
use Rattle.run_work.specs.Runs.{Printing, IsAnswerOf, IsOfLogs, OutStoodOf}
use Rattle.run_work.specs.Untraced.{IsCallEnd}
use Rattle.run_work.specs.Writings.{WritesNothing, writing_of}
use Rattle.run_work.specs.declared.hosts.Hosted.{Hosted}
use Rattle.snap_outside.specs.Causes.{EndsAtFault}
use Rattle.snap_outside.specs.declared.devices.LogDev.{Ghosts as DeviceTells}
use Rattle.snap_outside.specs.declared.sinks.Sink.{Ghosts as SinkTells}
use Rattle.run_opening.specs.snap_recover.declared.openings.Opening.{Opening}
use Rattle.snap_report.specs.declared.statuses.Status.{Status}
use Rattle.snap_work.specs.Works.{Work}
use Rattle.run_opening.specs.txn_records.declared.records.Record.{Record}

-- the output as the host was handed it, as it left it, and at the end
module _
    {D O T : Type 0} (device : DeviceTells D) (output : SinkTells O) (tracing : SinkTells T) (handed : CallState D T)
    (logs_before logs_after : Vec D) (first then last : O) (trace_before trace_after : T) (seen : call_of device output tracing logs_before first trace_before ≡ handed)
    (p : Printing) (w : Work) (schedule : Schedule) (ran : Result Hosted LogsNo) (count : ℕ) (events : List Event) (s : Status) (many : count ≡ length w.txs)
    (hosted : HasHosted p w schedule (devices_of device.told device.faults logs_before.items) (devices_of device.told device.faults logs_after.items) (writing_of output first then) ran)
    (end : IsCallEnd p ran count events (writing_of output then last) (writing_of tracing trace_before trace_after) s) (silent : StopsAtFault p ran (last ≡ then))
  where
    abbrev before : List Device
    before = devices_of device.told device.faults logs_before.items

    abbrev after : List Device
    after = devices_of device.told device.faults logs_after.items

    abbrev left : CallState D T
    left = call_of device output tracing logs_after last trace_after

    untraced : trace_after ≡ trace_before → WritesNothing (writing_of tracing trace_before trace_after)
    untraced same = subst (λ (x : T). Keeps (tracing.taken trace_before) (tracing.taken x)) (sym same) (Keeps-refl (tracing.taken trace_before))

    pub answer_of : EachStands (ran_by w schedule (call_of device output tracing logs_before first trace_before) left events) → MarksAreReplies → (events ≡ [] → trace_after ≡ trace_before)
        → IsAnswerOf p (ran_by w schedule handed left events) s
    answer_of stands marks none =
        subst (λ (x : CallState D T). IsAnswerOf p (ran_by w schedule x left events) s) seen
        (call_answer output first then last p w schedule before after ran count events (writing_of tracing trace_before trace_after) s many hosted end silent stands marks (λ empty. untraced (none empty)))

    pub once_of : EndsAtFault (HasStood ran) (output.faults first) (output.late first) (output.faults then) (output.late then)
        → EndsAtFault (OutStoodOf p s) (output.faults then) (output.late then) (output.faults last) (output.late last)
        → EndsAtFault (OutStoodOf p s) handed.output.faults handed.output.late (output.faults last) (output.late last)
    once_of host behind =
        subst (λ (x : CallState D T). EndsAtFault (OutStoodOf p s) x.output.faults x.output.late (output.faults last) (output.late last)) seen
        (call_once output first then last p w schedule before after (writing_of output first then) count events (writing_of output then last) (writing_of tracing trace_before trace_after) s ran hosted end
        silent host behind)

    pub opens_of : (records : List (List Record)) (o : Opening) → MayOpen w.logs w.states handed.devices after records o → ¬ IsOfLogs s
    opens_of records o may =
        call_not_of_logs output first then last p w schedule before after ran count events (writing_of tracing trace_before trace_after) s many hosted end silent records o
        (subst (λ (x : CallState D T). MayOpen w.logs w.states x.devices after records o) (sym seen) may)
