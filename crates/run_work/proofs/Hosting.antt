-- What a host promises of what it took, in the words of a run.
use Rattle.std.proofs.Common.{◌≡◌, ◌≢◌, ℕ, zero, suc, ◌+◌, ◌<◌, ◌≤◌, Bool, true, false, List, [], ◌∷◌, length, append-nil, refl, sym, ◌∙◌, subst, arith, Option, Some, None, inl, Result, Ok, Err}
use Rattle.std.proofs.lemmas.Bool.{eq-eqb, eqb-true, true≢false}
use Rattle.std.proofs.KnownBytes.{Appends-nil, Appends-kept}
use Rattle.std.specs.Prelude.{IfSome, IfOk}
use Rattle.std.specs.List.{AllByRecursion}
use Rattle.snap_core.specs.aml_slice.Controls.{Rest}
use Rattle.run_opening.specs.gate_log.State.{LogState}
use Rattle.snap_core.specs.core_events.declared.events.Event.{Event}
use Rattle.run_opening.specs.log_opening.Devices.{Device, device_at}
use Rattle.run_opening.specs.log_opening.declared.refusals.LogsNo.{LogsNo}
use Rattle.protocol.specs.Events as machine
use Rattle.protocol.specs.Fixed.{Fixed}
use Rattle.solo_host.specs.protocol_schedule.Draw.{IsFrontOfSeed}
use Rattle.run_opening.specs.record_log.Growth.{GrewBy}
use Rattle.run_recovery.specs.Runs.{machine_of, meant}
use Rattle.run_recovery.specs.Schedules.{Schedule, seeded, free, IsTakenBy}
use Rattle.run_work.specs.declared.hosts.Hosted.{Hosted}
use Rattle.run_work.specs.Hosts.{HasDriven, WasRunOnDevices, LeftFailed, IsStopOf, PrintsStopped, PrintsReplies, PrintsUnlessFailed, StopsSo, IsHostEnd, IsCoreOf, IsMadeByHost, IsHosted, HasHosted}
use Rattle.run_work.specs.Runs.{Printing, reporting, summing, replies_by, as_printed}
use Rattle.run_work.specs.Writings.{Writing, WritesNothing, IsSilent, Writes}
use Rattle.snap_core.specs.Cores.{CoreState, IsAt}
use Rattle.snap_outside.specs.Causes.{Rose}
use Rattle.run_opening.specs.snap_recover.declared.openings.Opening.{Opening}
use Rattle.snap_work.specs.Works.{Work}
use Rattle.solo_host.specs.run_effects.Driven.{IsDriven, none_failed, only_failed, AreDriven}
use Rattle.solo_host.specs.Drives as host
use Rattle.solo_host.specs.run_effects.declared.stops.Stop.{Stop}
use Rattle.solo_host.specs.run_effects.declared.stops.Stop.TheVariants as stop
use Rattle.run_opening.specs.txn_records.declared.records.Record.{Record}

-- ---- how it ended

rose_by : (w : Work) (seed : ℕ) (o : Opening) (es : List machine.Event) (old new : List LogState) (a b : ℕ) (why : Stop)
    → host.IsWhy (machine_of w o) seed es old new a b why → (l : ℕ) → host.failed_by why l ≡ true → (l < length old) × Rose (host.log_at old l).faults (host.log_at new l).faults
rose_by w seed o es old new a b stop.Quiet why l is = absurd (true≢false (sym is))
rose_by w seed o es old new a b (stop.LogFault k) why l is =
    subst (λ (n : ℕ). (n < length old) × Rose (host.log_at old n).faults (host.log_at new n).faults) (eqb-true k l is) (why.0, why.2)
rose_by w seed o es old new a b stop.OutFault why l is = absurd (true≢false (sym is))
rose_by w seed o es old new a b stop.Memory why l is = absurd (true≢false (sym is))

driven : (w : Work) (seed : ℕ) (o : Opening) (es : List machine.Event) (old new : List LogState) (a b : ℕ) (by : Stop) → IsFrontOfSeed (machine_of w o) seed es
    → host.IsWhy (machine_of w o) seed es old new a b by → AreDriven (machine_of w o) es (host.failed_by by) old new → HasDriven w (seeded seed) o es old new (host.failed_by by)
driven w seed o es old new a b by front why logs = record {
  front = front;
  as_many = logs.0;
  each = logs.1;
  rose = rose_by w seed o es old new a b by why;
}

stopped : (w : Work) (seed : ℕ) (o : Opening) (es : List machine.Event) (old new : List LogState) (out : Writing) (by : Stop) → HasDriven w (seeded seed) o es old new (host.failed_by by)
    → host.IsWhy (machine_of w o) seed es old new out.faults_before out.faults_after by → IsStopOf (HasDriven w (seeded seed) o es old new) (as_printed reporting w (seeded seed) o es out) by
stopped w seed o es old new out stop.Quiet left why = (left, why)
stopped w seed o es old new out (stop.LogFault k) left why = (left, why.1)
stopped w seed o es old new out stop.OutFault left why = (left, why.1)
stopped w seed o es old new out stop.Memory left why = left

replies_printed : (w : Work) (seed : ℕ) (o : Opening) (es : List machine.Event) (out : Writing) (by : Stop)
    → host.IsPrinted (machine_of w o) seed es out.taken_before out.taken_after by → PrintsReplies (as_printed reporting w (seeded seed) o es out) by
replies_printed w seed o es out stop.Quiet is = is
replies_printed w seed o es out (stop.LogFault k) is = is
replies_printed w seed o es out stop.OutFault is = (is.0, is.3, (is.1, is.2, is.4, is.5))
replies_printed w seed o es out stop.Memory is = is

hosted_by : (w : Work) (seed : ℕ) (o : Opening) (es : List machine.Event) (old new : List LogState) (out : Writing) (by : Stop) → IsFrontOfSeed (machine_of w o) seed es
    → host.IsWhy (machine_of w o) seed es old new out.faults_before out.faults_after by → AreDriven (machine_of w o) es (host.failed_by by) old new
    → host.IsPrinted (machine_of w o) seed es out.taken_before out.taken_after by → out.faults_before ≤ out.faults_after
    → IsHostEnd (HasDriven w (seeded seed) o es old new) (as_printed reporting w (seeded seed) o es out) by
hosted_by w seed o es old new out by front why logs printed later = record {
  why = stopped w seed o es old new out by (driven w seed o es old new out.faults_before out.faults_after by front why logs) why;
  printed = replies_printed w seed o es out by printed;
  later = later;
}

pub hosted : (w : Work) (seed : ℕ) (o : Opening) (es : List machine.Event) (old new : List LogState) (out : Writing) (by : Stop) (m : Fixed Rest) → m ≡ machine_of w o
    → IsFrontOfSeed m seed es → host.IsWhy m seed es old new out.faults_before out.faults_after by → AreDriven m es (host.failed_by by) old new
    → host.IsPrinted m seed es out.taken_before out.taken_after by → out.faults_before ≤ out.faults_after
    → IsHostEnd (HasDriven w (seeded seed) o es old new) (as_printed reporting w (seeded seed) o es out) by
hosted w seed o es old new out by m same front why logs printed later =
    hosted_by w seed o es old new out by (subst (λ (x : Fixed Rest). IsFrontOfSeed x seed es) same front)
    (subst (λ (x : Fixed Rest). host.IsWhy x seed es old new out.faults_before out.faults_after by) same why) (subst (λ (x : Fixed Rest). AreDriven x es (host.failed_by by) old new) same logs)
    (subst (λ (x : Fixed Rest). host.IsPrinted x seed es out.taken_before out.taken_after by) same printed) later

-- unless it stopped for the output, all replies are printed
whole_by : (w : Work) (seed : ℕ) (o : Opening) (es : List machine.Event) (out : Writing) (by : Stop) (failed : Bool) → (by ≡ stop.OutFault → failed ≡ true)
    → host.IsPrinted (machine_of w o) seed es out.taken_before out.taken_after by → PrintsUnlessFailed failed (as_printed reporting w (seeded seed) o es out)
whole_by w seed o es out stop.Quiet failed told is stood = is
whole_by w seed o es out (stop.LogFault k) failed told is stood = is
whole_by w seed o es out stop.OutFault failed told is stood = absurd (true≢false (sym (told refl) ∙ stood))
whole_by w seed o es out stop.Memory failed told is stood = is

pub whole : (w : Work) (seed : ℕ) (o : Opening) (es : List machine.Event) (out : Writing) (by : Stop) (failed : Bool) (m : Fixed Rest) → m ≡ machine_of w o → (by ≡ stop.OutFault → failed ≡ true)
    → host.IsPrinted m seed es out.taken_before out.taken_after by → PrintsUnlessFailed failed (as_printed reporting w (seeded seed) o es out)
whole w seed o es out by failed m same told is =
    whole_by w seed o es out by failed told (subst (λ (x : Fixed Rest). host.IsPrinted x seed es out.taken_before out.taken_after by) same is)

pub stops : (by : Stop) (failed : Bool) → (by ≡ stop.OutFault → failed ≡ true) → (by ≢ stop.OutFault → failed ≡ false) → StopsSo reporting failed by
stops stop.Quiet failed told stood = stood (λ e. cc)
stops (stop.LogFault k) failed told stood = tt
stops stop.OutFault failed told stood = told refl
stops stop.Memory failed told stood = stood (λ e. cc)

-- ---- nothing was taken

nothing_grew : (l : LogState) → l.shut ≡ false → IsDriven l l [] None
nothing_grew l quiet = record {
  grew = λ device end first grew gate. subst (λ (groups : List (List Record)). GrewBy device l.told end groups None) (sym (append-nil first)) grew;
  gate = refl;
  format = refl;
  shut = quiet;
  later = omega arith;
  rose = tt;
}

pub nothing_written : (out : Writing) → WritesNothing out → Writes out []
nothing_written out nothing = Appends-kept out.taken_before out.taken_before out.taken_after [] (Appends-nil out.taken_before) nothing

pub shut_at : (logs : List LogState) (n : ℕ) → n < length logs → AllByRecursion (λ (l : LogState). l.shut ≡ false) logs → (host.log_at logs n).shut ≡ false
shut_at [] n lt all = absurd (omega (arith, lt))
shut_at (l ∷ logs) zero lt all = all.0
shut_at (l ∷ logs) (suc n) lt all = shut_at logs n (omega (arith, lt)) all.1

none_taken : (m : Fixed Rest) (schedule : Schedule) → IsTakenBy m schedule []
none_taken m (seeded seed) = tt
none_taken m free = tt

no_replies : (p : Printing) (m : Fixed Rest) (out : Writing) → Writes out [] → Writes out (replies_by p m [])
no_replies reporting m out nothing = nothing
no_replies summing m out nothing = nothing

-- there was no memory for a core
no_core_ends : (p : Printing) (w : Work) (schedule : Schedule) (o : Opening) (logs : List LogState) (out : Writing) → AllByRecursion (λ (l : LogState). l.shut ≡ false) logs → WritesNothing out
    → out.faults_before ≤ out.faults_after → IsHostEnd (HasDriven w schedule o [] logs logs) (as_printed p w schedule o [] out) stop.Memory
no_core_ends p w schedule o logs out ready nothing later = record {
  why = record { front = none_taken (machine_of w o) schedule; as_many = refl; each = λ l lt. nothing_grew (host.log_at logs l) (shut_at logs l lt ready); rose = λ l is. absurd (true≢false (sym is)) };
  printed = no_replies p (machine_of w o) out (nothing_written out nothing);
  later = later;
}

pub no_core : (p : Printing) (w : Work) (schedule : Schedule) (o : Opening) (logs : List LogState) (out : Writing) (kept : List Event) → kept ≡ []
    → AllByRecursion (λ (l : LogState). l.shut ≡ false) logs → WritesNothing out → out.faults_before ≤ out.faults_after
    → IsHostEnd (HasDriven w schedule o (meant kept) logs logs) (as_printed p w schedule o (meant kept) out) stop.Memory
no_core p w schedule o logs out kept none ready nothing later =
    subst (λ (es : List Event). IsHostEnd (HasDriven w schedule o (meant es) logs logs) (as_printed p w schedule o (meant es) out) stop.Memory) (sym none) (no_core_ends p w schedule o logs out ready nothing later)

pub no_memory : (p : Printing) → StopsSo p false stop.Memory
no_memory reporting = refl
no_memory summing = refl

-- ---- the same of other logs, or of another output

-- what a run left, on open logs or on all devices
module _ (P Q : (ℕ → Bool) → Type 0) (then : (failed : ℕ → Bool) → P failed → Q failed) (w : Work) (o : Opening) (es : List machine.Event) where
  failed_as : (schedule : Schedule) (log : ℕ) → LeftFailed P w schedule o es log → LeftFailed Q w schedule o es log
  failed_as (seeded seed) log left = (then (only_failed log) left.0, left.1)
  failed_as free log left = (left.0, left.1, then left.0 left.2, left.3)

  stop_as : (p : Printing) (schedule : Schedule) (out : Writing) (by : Stop) → IsStopOf P (as_printed p w schedule o es out) by → IsStopOf Q (as_printed p w schedule o es out) by
  stop_as p schedule out stop.Quiet why = (then none_failed why.0, why.1)
  stop_as p schedule out (stop.LogFault log) why = failed_as schedule log why
  stop_as p schedule out stop.OutFault why = (then none_failed why.0, why.1)
  stop_as p schedule out stop.Memory why = then none_failed why

  pub left_as : (p : Printing) (schedule : Schedule) (out : Writing) (by : Stop) → IsHostEnd P (as_printed p w schedule o es out) by → IsHostEnd Q (as_printed p w schedule o es out) by
  left_as p schedule out by h = record { why = stop_as p schedule out by h.why; printed = h.printed; later = h.later }

nothing_stopped : (w : Work) (schedule : Schedule) (o : Opening) (es : List machine.Event) (out : Writing) → Writes out [] → PrintsStopped (as_printed summing w schedule o es out)
nothing_stopped w (seeded seed) o es out nothing = nothing
nothing_stopped w free o es out nothing = inl nothing

-- the replies went where nothing fails, and nothing was printed
pub unheard : (Left : (ℕ → Bool) → Type 0) (w : Work) (schedule : Schedule) (o : Opening) (es : List machine.Event) (replies out : Writing) (by : Stop)
    → ¬ Rose replies.faults_before replies.faults_after → Writes out [] → out.faults_before ≤ out.faults_after
    → IsHostEnd Left (as_printed reporting w schedule o es replies) by → IsHostEnd Left (as_printed summing w schedule o es out) by
unheard Left w schedule o es replies out stop.Quiet quiet nothing later h = record { why = h.why; printed = nothing; later = later }
unheard Left w schedule o es replies out (stop.LogFault k) quiet nothing later h = record { why = h.why; printed = nothing_stopped w schedule o es out nothing; later = later }
unheard Left w schedule o es replies out stop.OutFault quiet nothing later h = absurd (quiet h.why.1)
unheard Left w schedule o es replies out stop.Memory quiet nothing later h = record { why = h.why; printed = nothing; later = later }

-- ---- what a host made, in one

-- of other logs
pub made_as : (P Q : (ℕ → Bool) → Type 0) → ((failed : ℕ → Bool) → P failed → Q failed) → (p : Printing) (w : Work) (schedule : Schedule) (o : Opening) (replies : Writing) (h : Hosted)
    → IsMadeByHost p P w schedule o replies h → IsMadeByHost p Q w schedule o replies h
made_as P Q then p w schedule o replies h is = record { ends = left_as P Q then w o (meant h.kept.items) p schedule replies h.stop is.ends; core = is.core; whole = is.whole; stops = is.stops }

-- on all devices, where the replies went where nothing fails
pub unheard_host : (w : Work) (schedule : Schedule) (before after : List Device) (replies out : Writing) (h : Hosted) → ¬ Rose replies.faults_before replies.faults_after → IsSilent out
    → IsHosted reporting w schedule before after replies h
    → IsHosted summing w schedule before after out (record { core = h.core; stop = h.stop; kept = h.kept; failed = false; head = h.head })
unheard_host w schedule before after replies out h quiet silent is =
    let es = meant h.kept.items in
    let nothing : Writes out [] = subst (λ (t : Option (List ℕ)). Writes (record out { taken_after = t }) []) (sym silent.0) (Appends-nil out.taken_before) in
    record {
      opening = is.opening;
      within = is.within;
      made = record {
        ends = unheard (WasRunOnDevices w schedule h.head is.opening es before after) w schedule is.opening es replies out h.stop quiet nothing (omega (arith, silent.1)) is.made.ends;
        core = is.made.core;
        whole = λ _. nothing;
        stops = refl;
      };
    }

-- a core that has come to the events is there where there is one
core_at : (m : Fixed Rest) (es : List machine.Event) (by : Stop) (core : Option CoreState) → IsCoreOf m es by core → IfSome core (λ c. IsAt c es)
core_at m es by None is = tt
core_at m es by (Some core) is = is.1

pub core_of : (p : Printing) (w : Work) (schedule : Schedule) (before after : List Device) (replies : Writing) (ran : Result Hosted LogsNo) → HasHosted p w schedule before after replies ran
    → IfOk ran (λ h. IfSome h.core (λ c. IsAt c (meant h.kept.items)))
core_of p w schedule before after replies (Ok h) is = core_at (machine_of w is.opening) (meant h.kept.items) h.stop h.core is.made.core
core_of p w schedule before after replies (Err why) is = tt

-- ---- a log that failed

-- it is one of the work's, and its device's count rose
pub failed_there : (w : Work) (schedule : Schedule) (head : ℕ) (o : Opening) (es : List machine.Event) (before after : List Device) (by : Schedule) (log : ℕ)
    → LeftFailed (WasRunOnDevices w schedule head o es before after) w by o es log → (log < w.logs) × Rose (device_at before (head + log)).faults (device_at after (head + log)).faults
failed_there w schedule head o es before after (seeded seed) log left = left.0.rose log (eq-eqb log log refl)
failed_there w schedule head o es before after free log left = left.2.rose log left.1.is

-- so its device is one of four
pub named_of : (p : Printing) (w : Work) (schedule : Schedule) (before after : List Device) (replies : Writing) (ran : Result Hosted LogsNo) → HasHosted p w schedule before after replies ran
    → IfOk ran (λ h. (log : ℕ) → h.stop ≡ stop.LogFault log → h.head + log < 4)
named_of p w schedule before after replies (Ok h) is = λ log e.
    let es = meant h.kept.items in
    let why : IsStopOf (WasRunOnDevices w schedule h.head is.opening es before after) (as_printed p w schedule is.opening es replies) (stop.LogFault log) =
    subst (λ (by : Stop). IsStopOf (WasRunOnDevices w schedule h.head is.opening es before after) (as_printed p w schedule is.opening es replies) by) e is.made.ends.why in
    let there = failed_there w schedule h.head is.opening es before after schedule log why in omega (arith, there.0, is.within)
named_of p w schedule before after replies (Err why) is = tt
