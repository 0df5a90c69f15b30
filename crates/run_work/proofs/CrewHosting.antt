-- What several workers promise of what they took, in the words of a run.
use Rattle.std.proofs.Common.{◌≡◌, ℕ, ◌<◌, Bool, true, false, if◌then◌else◌, inl, inr, List, length, refl, sym, ap, subst, ◌∙◌, arith, Option, Some, None, nat_lt}
use Rattle.std.proofs.lemmas.Bool.{lt-ltb, ltb-true, true≢false}
use Rattle.snap_core.specs.aml_slice.Controls.{Rest}
use Rattle.crew_host.specs.crew_ends.Ends as crew
use Rattle.crew_host.specs.Drives.{IsCrewStop}
use Rattle.crew_host.specs.crew_parts.Crews.{OutputIs}
use Rattle.run_opening.specs.gate_log.State.{LogState, AreAllOpen, is_log_shut}
use Rattle.protocol.specs.Events as machine
use Rattle.protocol.specs.Fixed.{Fixed}
use Rattle.protocol.specs.Runs.{IsRun}
use Rattle.solo_host.specs.run_effects.Driven.{IsDriven, tried_on, none_failed, AreDriven}
use Rattle.solo_host.specs.run_effects.declared.stops.Stop.{Stop}
use Rattle.solo_host.specs.run_effects.declared.stops.Stop.TheVariants as stop
use Rattle.solo_host.specs.run_effects.Groups.{groups_of, group_behind}
use Rattle.run_recovery.specs.Runs.{machine_of, IsLeastOf}
use Rattle.run_recovery.specs.Schedules.{free}
use Rattle.run_work.specs.Hosts.{HasDriven, IsStopOf, PrintsStopped, PrintsReplies, PrintsUnlessFailed, StopsSo, IsHostEnd}
use Rattle.run_work.specs.Runs.{reporting, PrintsNext, as_printed}
use Rattle.run_work.specs.Writings.{Writing}
use Rattle.snap_outside.specs.Causes.{Rose}
use Rattle.run_opening.specs.snap_recover.declared.openings.Opening.{Opening}
use Rattle.snap_work.specs.Works.{Work}
use Rattle.run_opening.specs.txn_records.declared.records.Record.{Record}

-- ---- the logs that failed: those that are shut

abbrev failed_logs : List LogState → ℕ → Bool
failed_logs logs l = if nat_lt l (length logs) then (crew.log_at logs l).shut else false

within : (logs : List LogState) (l : ℕ) → l < length logs → failed_logs logs l ≡ (crew.log_at logs l).shut
within logs l lt = ap (λ t. if t then (crew.log_at logs l).shut else false) (lt-ltb l (length logs) lt)

-- one that failed is there, and is shut
there : (logs : List LogState) (l : ℕ) (t : Bool) → t ≡ nat_lt l (length logs) → (if t then (crew.log_at logs l).shut else false) ≡ true → (l < length logs) × ((crew.log_at logs l).shut ≡ true)
there logs l true is shut = (ltb-true l (length logs) (sym is), shut)
there logs l false is shut = absurd (true≢false (sym shut))

is_there : (logs : List LogState) (l : ℕ) → failed_logs logs l ≡ true → (l < length logs) × ((crew.log_at logs l).shut ≡ true)
is_there logs l shut = there logs l (nat_lt l (length logs)) refl shut

-- ---- what the logs got

same_tried : (m : Fixed Rest) (es : List machine.Event) (new : List LogState) (l : ℕ) → l < length new
    → tried_on (is_log_shut new) l (group_behind m l es) ≡ tried_on (failed_logs new) l (group_behind m l es)
same_tried m es new l lt = ap (λ t. if t then Some (group_behind m l es) else None) (sym (within new l lt))

rose_of : (a b : LogState) (groups : List (List Record)) (tried : Option (List Record)) → IsDriven a b groups tried → b.shut ≡ true → Rose a.faults b.faults
rose_of a b groups None driven shut = absurd (true≢false (sym shut ∙ driven.shut))
rose_of a b groups (Some group) driven shut = driven.rose

driven : (w : Work) (o : Opening) (es : List machine.Event) (old new : List LogState) → IsRun (machine_of w o) es → AreDriven (machine_of w o) es (is_log_shut new) old new
    → HasDriven w free o es old new (failed_logs new)
driven w o es old new run logs = record {
  front = run;
  as_many = logs.0;
  each = λ l lt.
      subst (λ (t : Option (List Record)). IsDriven (crew.log_at old l) (crew.log_at new l) (groups_of (machine_of w o) l es) t) (same_tried (machine_of w o) es new l (omega (arith, lt, logs.0)))
      (logs.1 l lt);
  rose = λ l is.
      let x = is_there new l is in
      let lt : l < length old = omega (arith, x.0, logs.0) in
      (lt, rose_of (crew.log_at old l) (crew.log_at new l) (groups_of (machine_of w o) l es) (tried_on (is_log_shut new) l (group_behind (machine_of w o) l es)) (logs.1 l lt) x.1);
}

-- where no log is shut none failed
none_driven : (w : Work) (o : Opening) (es : List machine.Event) (old new : List LogState) → IsRun (machine_of w o) es → AreDriven (machine_of w o) es (is_log_shut new) old new → AreAllOpen new
    → HasDriven w free o es old new none_failed
none_driven w o es old new run logs ready = record {
  front = run;
  as_many = logs.0;
  each = λ l lt.
      subst (λ (t : Bool). IsDriven (crew.log_at old l) (crew.log_at new l) (groups_of (machine_of w o) l es) (if t then Some (group_behind (machine_of w o) l es) else None))
      (ready l (omega (arith, lt, logs.0))) (logs.1 l lt);
  rose = λ l is. absurd (true≢false (sym is));
}

-- ---- why they ended

least : (logs : List LogState) (log : ℕ) → log < length logs → (crew.log_at logs log).shut ≡ true → ((k : ℕ) → k < log → (crew.log_at logs k).shut ≡ false) → IsLeastOf (failed_logs logs) log
least logs log lt shut below = record {
  is = within logs log lt ∙ shut;
  least = λ l less. within logs l (omega (arith, lt, less)) ∙ below l less;
}

-- what several workers promise of the output, however many of its calls were late before and after
abbrev Heard : Fixed Rest → List machine.Event → Bool → Writing → Type 0
Heard m es failed out =
    (before after : ℕ) × OutputIs m es (Some (record { taken = out.taken_before; faults = out.faults_before; late = before; failed = false }))
    (Some (record { taken = out.taken_after; faults = out.faults_after; late = after; failed = failed }))

rose_out : (w : Work) (o : Opening) (es : List machine.Event) (failed : Bool) (out : Writing) → Heard (machine_of w o) es failed out → failed ≡ true → Rose out.faults_before out.faults_after
rose_out w o es true out heard is = heard.2.1.rose
rose_out w o es false out heard is = absurd (true≢false (sym is))

whole : (w : Work) (o : Opening) (es : List machine.Event) (failed : Bool) (out : Writing) → Heard (machine_of w o) es failed out → PrintsUnlessFailed failed (as_printed reporting w free o es out)
whole w o es true out heard is = absurd (true≢false is)
whole w o es false out heard is = heard.2.1

next : (w : Work) (o : Opening) (es : List machine.Event) (out : Writing) → Heard (machine_of w o) es true out → PrintsNext (as_printed reporting w free o es out)
next w o es out heard = let b = heard.2.1 in (b.tx, b.allowed, (b.front, b.rest, b.line, b.taken))

-- why they ended
stopped : (w : Work) (o : Opening) (es : List machine.Event) (old new : List LogState) (failed : Bool) (out : Writing) (by : Stop) → IsRun (machine_of w o) es
    → AreDriven (machine_of w o) es (is_log_shut new) old new → crew.AreDue (machine_of w o) es new → IsCrewStop (machine_of w o) es new failed by → Heard (machine_of w o) es failed out
    → IsStopOf (HasDriven w free o es old new) (as_printed reporting w free o es out) by
stopped w o es old new failed out stop.Quiet run logs due why heard = (none_driven w o es old new run logs why.0, why.2)
stopped w o es old new failed out (stop.LogFault log) run logs due why heard = (
  failed_logs new,
  least new log why.0 why.1 why.2,
  driven w o es old new run logs,
  λ l is. let x = is_there new l is in due l x.0 x.1,
)
stopped w o es old new failed out stop.OutFault run logs due why heard = (none_driven w o es old new run logs why.0, rose_out w o es failed out heard why.1)
stopped w o es old new failed out stop.Memory run logs due why heard = none_driven w o es old new run logs why.0

broke_off : (w : Work) (o : Opening) (es : List machine.Event) (failed : Bool) (out : Writing) → failed ≡ true → Heard (machine_of w o) es failed out → PrintsNext (as_printed reporting w free o es out)
broke_off w o es true out is heard = next w o es out heard
broke_off w o es false out is heard = absurd (true≢false (sym is))

at_logs : (w : Work) (o : Opening) (es : List machine.Event) (failed : Bool) (out : Writing) → Heard (machine_of w o) es failed out → PrintsStopped (as_printed reporting w free o es out)
at_logs w o es true out heard = inr (heard.2.1.rose, next w o es out heard)
at_logs w o es false out heard = inl heard.2.1

printed : (w : Work) (o : Opening) (es : List machine.Event) (new : List LogState) (failed : Bool) (out : Writing) (by : Stop) → IsCrewStop (machine_of w o) es new failed by
    → Heard (machine_of w o) es failed out → PrintsReplies (as_printed reporting w free o es out) by
printed w o es new failed out stop.Quiet why heard = whole w o es failed out heard why.1
printed w o es new failed out (stop.LogFault log) why heard = at_logs w o es failed out heard
printed w o es new failed out stop.OutFault why heard = broke_off w o es failed out why.1 heard
printed w o es new failed out stop.Memory why heard = whole w o es failed out heard why.1

pub stops : (m : Fixed Rest) (es : List machine.Event) (logs : List LogState) (failed : Bool) (by : Stop) → IsCrewStop m es logs failed by → StopsSo reporting failed by
stops m es logs failed stop.Quiet is = is.1
stops m es logs failed (stop.LogFault log) is = tt
stops m es logs failed stop.OutFault is = is.1
stops m es logs failed stop.Memory is = is.1

-- ---- in one

module _
    (w : Work) (o : Opening) (es : List machine.Event) (old new : List LogState) (failed : Bool) (out : Writing) (by : Stop) (m : Fixed Rest) (same : m ≡ machine_of w o)
    (heard : Heard m es failed out)
  where
    heard_by : Heard (machine_of w o) es failed out
    heard_by = subst (λ (x : Fixed Rest). Heard x es failed out) same heard

    pub crew_whole : PrintsUnlessFailed failed (as_printed reporting w free o es out)
    crew_whole = whole w o es failed out heard_by

    pub crew_hosted : IsRun m es → AreDriven m es (is_log_shut new) old new → crew.AreDue m es new → IsCrewStop m es new failed by
        → IsHostEnd (HasDriven w free o es old new) (as_printed reporting w free o es out) by
    crew_hosted run logs due why =
        let why_by : IsCrewStop (machine_of w o) es new failed by = subst (λ (x : Fixed Rest). IsCrewStop x es new failed by) same why in
        record {
          why = stopped w o es old new failed out by (subst (λ (x : Fixed Rest). IsRun x es) same run) (subst (λ (x : Fixed Rest). AreDriven x es (is_log_shut new) old new) same logs)
              (subst (λ (x : Fixed Rest). crew.AreDue x es new) same due) why_by heard_by;
          printed = printed w o es new failed out by why_by heard_by;
          later = heard_by.2.0;
        }
