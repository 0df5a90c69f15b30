-- How a call ends, from how a run ended and what was written of its trace.
use Rattle.std.proofs.Common.{◌≡◌, ◌≢◌, ◌⊎◌, inl, inr, ℕ, ◌+◌, ◌<◌, ◌≤◌, Bool, true, Result, Ok, Err, List, [], length, append-nil, refl, sym, ◌∙◌, ap, subst, arith}
use Rattle.std.proofs.KnownBytes.{Keeps-refl}
use Rattle.std.specs.Io.KnownBytes.{Keeps}
use Rattle.std.specs.List.{list_all}
use Rattle.snap_core.specs.aml_slice.Controls.{Rest}
use Rattle.snap_core.specs.core_events.declared.events.Event.{Event}
use Rattle.run_opening.specs.log_opening.declared.refusals.LogsNo.{LogsNo}
use Rattle.run_opening.specs.log_opening.declared.refusals.LogsNo.TheVariants as ending
use Rattle.run_opening.specs.log_opening.Devices.{Device, device_at}
use Rattle.protocol.specs.Events as machine
use Rattle.protocol.specs.Fixed.{Fixed}
use Rattle.protocol.specs.Runs.{reached}
use Rattle.run_opening.specs.Opens.{IsNoRun, MayOpen}
use Rattle.run_printing.specs.Printed.{traced_line}
use Rattle.run_recovery.specs.Runs.{HasRunWork, meant, machine_of, HasEnded}
use Rattle.run_recovery.specs.Schedules.{Schedule, seeded, free}
use Rattle.run_recovery.specs.OneRun.{the_run}
use Rattle.run_recovery.specs.Stands.{RunStands}
use Rattle.run_work.proofs.Ending.{StopsAtFault, untraced_of}
use Rattle.run_work.proofs.Hosting.{failed_there}
use Rattle.run_work.specs.Hosts.{LeftFailed, HasHosted}
use Rattle.run_work.specs.Runs.{Printing, reporting, RunUse, EachFailed, EachHasReply, HasFailed, IsAnswerOf, LogRose, PrintsFailed, IsOfLogs, printed_of}
use Rattle.run_work.specs.Statuses.{logs_status}
use Rattle.run_work.specs.Untraced.{IsRunEnd, RunLeft, IsNoBeginning, IsUntraced, IsTraced, EndsUntraced, IsCallEnd, HasLogFault}
use Rattle.run_work.specs.declared.hosts.Hosted.{Hosted}
use Rattle.run_work.specs.Writings.{Writing, writing_of, WritesNothing, Writes, WritesLines}
use Rattle.snap_base.specs.declared.transactions.State.{State}
use Rattle.snap_outside.specs.Causes.{Rose}
use Rattle.snap_outside.specs.declared.sinks.Sink.{Ghosts}
use Rattle.run_opening.specs.snap_recover.declared.openings.Opening.{Opening}
use Rattle.snap_report.specs.declared.statuses.Status.{Status}
use Rattle.snap_report.specs.declared.statuses.Status.TheVariants as status
use Rattle.snap_work.specs.Works.{Work}
use Rattle.run_printing.specs.trace_text.Traces.{trace_of}
use Rattle.run_opening.specs.txn_records.declared.records.Record.{Record}
use Rattle.solo_host.specs.run_effects.Driven.{none_failed, only_failed}

-- ---- with the trace

-- a device that failed is told by its count
no_run_rose : (count : ℕ) (states : List State) (before after : List Device) (log : ℕ) → IsNoRun count states before after (ending.Device log)
    → Rose (device_at before log).faults (device_at after log).faults
no_run_rose count states before after log (inl (inl (inl fails), touched)) = fails.rose
no_run_rose count states before after log (inl (inl (inr fails), touched)) = fails.rose
no_run_rose count states before after log (inl (inr none, touched)) = absurd none.why
no_run_rose count states before after log (inr (inl (at, is, fails))) =
    let there : log ≡ at = cc in subst (λ (n : ℕ). Rose (device_at before n).faults (device_at after n).faults) (sym there) fails.rose
no_run_rose count states before after log (inr (inr (is, fails))) =
    let first : log ≡ 0 = cc in subst (λ (n : ℕ). Rose (device_at before n).faults (device_at after n).faults) (sym first) fails.rose

unbegun_answer : (p : Printing) (r : RunUse) (why : LogsNo) → WritesNothing r.trace → IsNoBeginning p r why → IsAnswerOf p r (logs_status why)
unbegun_answer p r (ending.Refused log offset cause) nothing none = ((none.kept, none.none.none, nothing, none.none.safe), none.told)
unbegun_answer p r (ending.Device log) nothing none =
    (no_run_rose r.work.logs r.work.states r.devices_before r.devices_after log none.none.none, inl ((none.kept, none.none.none, nothing, none.none.safe), none.told))
unbegun_answer p r ending.Memory nothing none = inl ((none.kept, none.none.none, nothing, none.none.safe), none.told)

-- of a trace that is written whole, whole lines are
whole_lines : (t : Writing) (kept : List Event) → Writes t (trace_of kept) → WritesLines traced_line t [] kept
whole_lines t kept whole = inl (kept, [], sym (append-nil kept), whole)

-- what the laws say of each run that the call may have made
abbrev pub EachStands : RunUse → Type 0
EachStands r = (o : Opening) (failed : ℕ → Bool) (run : HasRunWork r.work r.schedule o (meant r.kept) failed r.devices_before r.devices_after) → RunStands (the_run run)

-- what the law marks_are_replies says
abbrev pub MarksAreReplies : Type 0
MarksAreReplies = (m : Fixed Rest) (es : List machine.Event) → list_all (λ r. r) (reached m es).desk.replied ≡ true → EachHasReply (length m.text.txs) es

-- where a run has ended, each transaction has its Reply
all_replied : (r : RunUse) → EachStands r → MarksAreReplies → (o : Opening) (failed : ℕ → Bool) → HasRunWork r.work r.schedule o (meant r.kept) failed r.devices_before r.devices_after
    → HasEnded r.work o (meant r.kept) → EachHasReply (length r.work.txs) (meant r.kept)
all_replied r stands marks o failed run ended = marks (machine_of r.work o) (meant r.kept) ((stands o failed run).answered ended).0.replied

-- the log whose device the status names is one of the work's, and its device's count rose
rose_there : (r : RunUse) (head : ℕ) (o : Opening) (device : ℕ) (end : HasLogFault (RunLeft r head o) head (printed_of reporting r o (meant r.kept)) device) → (end.0 < r.work.logs) × LogRose r device
rose_there r head o device (l, is, left) =
    let x = failed_there r.work r.schedule head o (meant r.kept) r.devices_before r.devices_after r.schedule l left in (x.0, subst (λ (n : ℕ). LogRose r n) (sym is) x.1)

failed_answer : (r : RunUse) → EachStands r → (head : ℕ) (o : Opening) (schedule : Schedule) (device l : ℕ) → device ≡ head + l → WritesLines traced_line r.trace [] r.kept
    → LeftFailed (RunLeft r head o) r.work schedule o (meant r.kept) l → (P : Opening → List machine.Event → Type 0) → P o (meant r.kept) → HasFailed r schedule device P
failed_answer r stands head o (seeded seed) device l is front left P printed =
    let on = left.0.first in
    (l, (o, left.0.run, stands o (only_failed l) left.0.run, (is ∙ ap (λ (n : ℕ). n + l) (sym on), left.1, printed), front))
failed_answer r stands head o free device l is front left P printed =
    let on = left.2.first in
    let each : EachFailed r left.2.run.devices.head left.0 o (meant r.kept) =
    λ k failed. let x = left.2.rose k failed in (x.0, subst (λ (n : ℕ). LogRose r (n + k)) (sym on) x.1, left.3 k failed) in
    (left.0, l, left.1, (o, left.2.run, stands o left.0 left.2.run, (is ∙ ap (λ (n : ℕ). n + l) (sym on), each, printed), front))

begun_answer : (p : Printing) (r : RunUse) → EachStands r → MarksAreReplies → (head : ℕ) (o : Opening) (s : Status) → WritesLines traced_line r.trace [] r.kept → (s ≡ status.Done → Writes r.trace (trace_of r.kept))
    → IsRunEnd (RunLeft r head o) head (printed_of p r o (meant r.kept)) s → IsAnswerOf p r s
begun_answer p r stands marks head o status.Done front whole end = ((o, end.0.run, stands o none_failed end.0.run, ((end.1, all_replied r stands marks o none_failed end.0.run end.1), end.2), front), whole refl)
begun_answer p r stands marks head o (status.Usage place) front whole end = end
begun_answer p r stands marks head o (status.Input line cause) front whole end = end
begun_answer p r stands marks head o (status.Logs log offset cause) front whole end = absurd end
begun_answer p r stands marks head o status.Memory front whole end = inr (o, end.0.run, stands o none_failed end.0.run, end.1, front)
begun_answer p r stands marks head o status.ReadFault front whole end = end
begun_answer p r stands marks head o (status.LogFault device) front whole end =
    let x = end.0 in
    ((rose_there r head o device x).1, inr (failed_answer r stands head o r.schedule device x.0 x.1 front x.2 (λ o es. PrintsFailed device (printed_of p r o es)) end.1))
begun_answer p r stands marks head o status.OutFault front whole end = (end.1, (o, end.0.run, stands o none_failed end.0.run, end.2, front))
begun_answer p r stands marks head o status.TraceFault front whole end = absurd end
begun_answer p r stands marks head o (status.Audit fault) front whole end = end
begun_answer p r stands marks head o (status.Compact logs) front whole end = end

-- where nothing is kept nothing is traced
abbrev Unwritten : RunUse → Type 0
Unwritten r = r.kept ≡ [] → WritesNothing r.trace

same_answer : (p : Printing) (r : RunUse) → EachStands r → MarksAreReplies → (before after : Status) → Unwritten r → IsUntraced p r before → after ≡ before → WritesLines traced_line r.trace [] r.kept
    → (before ≡ status.Done → Writes r.trace (trace_of r.kept)) → IsAnswerOf p r after
same_answer p r stands marks before after nothing (inl (why, none, is)) same front whole =
    subst (λ (t : Status). IsAnswerOf p r t) (sym (same ∙ is)) (unbegun_answer p r why (nothing none.kept) none)
same_answer p r stands marks before after nothing (inr (head, o, within, end)) same front whole =
    subst (λ (t : Status). IsAnswerOf p r t) (sym same) (begun_answer p r stands marks head o before front whole end)

-- all was done, but for the trace
done_but_traced : (p : Printing) (r : RunUse) → EachStands r → MarksAreReplies → (after : Status) → IsUntraced p r status.Done → WritesLines traced_line r.trace [] r.kept
    → (after ≡ status.Memory) ⊎ ((after ≡ status.TraceFault) × Rose r.trace.faults_before r.trace.faults_after) → IsAnswerOf p r after
done_but_traced p r stands marks after (inl (why, none, is)) front then = absurd (never why is)
  where
    never : (answer : LogsNo) → status.Done ≡ logs_status answer → ⊥
    never (ending.Refused log offset cause) e = cc
    never (ending.Device log) e = cc
    never ending.Memory e = cc
done_but_traced p r stands marks after (inr (head, o, within, end)) front (inl memory) =
    subst (λ (t : Status). IsAnswerOf p r t) (sym memory) (inr (o, end.0.run, stands o none_failed end.0.run, inr (end.1, end.2), front))
done_but_traced p r stands marks after (inr (head, o, within, end)) front (inr fault) =
    subst (λ (t : Status). IsAnswerOf p r t) (sym fault.0) (fault.1, (o, end.0.run, stands o none_failed end.0.run, ((end.1, all_replied r stands marks o none_failed end.0.run end.1), end.2), front))

is_done : (s : Status) → (s ≡ status.Done) ⊎ (s ≢ status.Done)
is_done status.Done = inl refl
is_done (status.Usage place) = inr (λ e. cc)
is_done (status.Input line cause) = inr (λ e. cc)
is_done (status.Logs log offset cause) = inr (λ e. cc)
is_done status.Memory = inr (λ e. cc)
is_done status.ReadFault = inr (λ e. cc)
is_done (status.LogFault log) = inr (λ e. cc)
is_done status.OutFault = inr (λ e. cc)
is_done status.TraceFault = inr (λ e. cc)
is_done (status.Audit fault) = inr (λ e. cc)
is_done (status.Compact logs) = inr (λ e. cc)

answered : (p : Printing) (r : RunUse) → EachStands r → MarksAreReplies → (before after : Status) → (r.kept ≡ [] → WritesNothing r.trace) → IsUntraced p r before → IsTraced r.trace r.kept before after → IsAnswerOf p r after
answered p r stands marks before after nothing run (inl (same, whole)) = same_answer p r stands marks before after nothing run same (whole_lines r.trace r.kept whole) (λ _. whole)
answered p r stands marks before after nothing run (inr (front, other, done)) = elim (is_done before) [
  | inl is ↦ done_but_traced p r stands marks after (subst (λ (t : Status). IsUntraced p r t) is run) front (done is)
  | inr not ↦ same_answer p r stands marks before after nothing run (other not) front (λ is. absurd (not is))
]

-- ---- what stands in the way

-- a log on which a run begins is not refused, and where none fails no log ends the run
begun_not_of_logs : (p : Printing) (r : RunUse) (records : List (List Record)) (first : Opening) → MayOpen r.work.logs r.work.states r.devices_before r.devices_after records first
    → (head : ℕ) (o : Opening) → head + r.work.logs ≤ 4 → (s : Status) → IsRunEnd (RunLeft r head o) head (printed_of p r o (meant r.kept)) s → ¬ IsOfLogs s
begun_not_of_logs p r records first may head o within status.Done end of = of
begun_not_of_logs p r records first may head o within (status.Usage place) end of = of
begun_not_of_logs p r records first may head o within (status.Input line cause) end of = of
begun_not_of_logs p r records first may head o within (status.Logs log offset cause) end of = end
begun_not_of_logs p r records first may head o within status.Memory end of = of
begun_not_of_logs p r records first may head o within status.ReadFault end of = of
begun_not_of_logs p r records first may head o within (status.LogFault device) end of =
    let x = end.0 in
    let is : device ≡ head + x.0 = x.1 in
    let there = rose_there r head o device x in may.quiet device (omega (arith, is, there.0, within)) there.1
begun_not_of_logs p r records first may head o within status.OutFault end of = of
begun_not_of_logs p r records first may head o within status.TraceFault end of = of
begun_not_of_logs p r records first may head o within (status.Audit fault) end of = of
begun_not_of_logs p r records first may head o within (status.Compact logs) end of = of

-- nor does a run that does not begin for want of memory
unbegun_not_of_logs : (why : LogsNo) (s : Status) → s ≡ logs_status why → why ≡ ending.Memory → ¬ IsOfLogs s
unbegun_not_of_logs why s is memory of =
    let told : s ≡ status.Memory = is ∙ ap (λ (x : LogsNo). logs_status x) memory in subst (λ (x : Status). IsOfLogs x) told of

untraced_not_of_logs : (p : Printing) (r : RunUse) (records : List (List Record)) (first : Opening) → MayOpen r.work.logs r.work.states r.devices_before r.devices_after records first
    → (s : Status) → IsUntraced p r s → ¬ IsOfLogs s
untraced_not_of_logs p r records first may s (inl (why, none, is)) = unbegun_not_of_logs why s is (none.none.complete records first may)
untraced_not_of_logs p r records first may s (inr (head, o, within, end)) = begun_not_of_logs p r records first may head o within s end

-- nor does the trace
traced_not_of_logs : (trace : Writing) (kept : List Event) (before after : Status) → IsTraced trace kept before after → ¬ IsOfLogs before → ¬ IsOfLogs after
traced_not_of_logs trace kept before after (inl (same, whole)) not of = not (subst (λ (s : Status). IsOfLogs s) same of)
traced_not_of_logs trace kept before after (inr (front, other, done)) not of = elim (is_done before) [
  | inl is ↦ elim (done is) [
    | inl memory ↦ subst (λ (s : Status). IsOfLogs s) memory of
    | inr fault ↦ subst (λ (s : Status). IsOfLogs s) fault.0 of
  ]
  | inr otherwise ↦ not (subst (λ (s : Status). IsOfLogs s) (other otherwise) of)
]

-- ---- of a call, by what a host left and how it ended then

-- the output as the host was handed it, as it left it, and at the end
module _
    {O : Type 0} (tells : Ghosts O) (first then last : O)
    (p : Printing) (w : Work) (schedule : Schedule) (before after : List Device) (ran : Result Hosted LogsNo) (count : ℕ) (events : List Event) (trace : Writing) (s : Status)
    (many : count ≡ length w.txs) (hosted : HasHosted p w schedule before after (writing_of tells first then) ran)
    (end : IsCallEnd p ran count events (writing_of tells then last) trace s) (silent : StopsAtFault p ran (last ≡ then))
  where
    abbrev run_of : RunUse
    run_of = record { work = w; schedule = schedule; kept = events; devices_before = before; devices_after = after; out = writing_of tells first last; trace = trace }

    nothing_behind : (r : Result Hosted LogsNo) → StopsAtFault p r (last ≡ then) → StopsAtFault p r (WritesNothing (writing_of tells then last))
    nothing_behind (Ok h) quiet = λ stops failed. subst (λ (x : O). Keeps (tells.taken then) (tells.taken x)) (sym (quiet stops failed)) (Keeps-refl (tells.taken then))
    nothing_behind (Err why) quiet = tt

    untraced : IsUntraced p run_of end.before
    untraced =
        untraced_of p w schedule before after (writing_of tells first then) (writing_of tells then last) trace (refl, refl) ran events end.before hosted
        (subst (λ (n : ℕ). EndsUntraced p ran n events (writing_of tells then last) end.before) many end.untraced) (nothing_behind ran silent)

    pub call_answer : EachStands run_of → MarksAreReplies → (events ≡ [] → WritesNothing trace) → IsAnswerOf p run_of s
    call_answer stands marks nothing = answered p run_of stands marks end.before s nothing untraced end.traced

    pub call_not_of_logs : (records : List (List Record)) (o : Opening) → MayOpen w.logs w.states before after records o → ¬ IsOfLogs s
    call_not_of_logs records o may = traced_not_of_logs trace events end.before s end.traced (untraced_not_of_logs p run_of records o may end.before untraced)
