-- No call is made behind one that failed: what a host writes, what is printed behind the replies, and the trace.
use Rattle.std.proofs.Common.{◌≡◌, ◌≢◌, ℕ, Bool, true, inl, inr, List, Option, Some, None, Result, Ok, Err, refl, sym, ◌∙◌, ap, subst}
use Rattle.std.proofs.lemmas.Bool.{cases_Bool, true≢false}
use Rattle.snap_core.specs.aml_slice.Controls.{Rest}
use Rattle.snap_core.specs.core_events.declared.events.Event.{Event}
use Rattle.run_opening.specs.log_opening.Devices.{Device}
use Rattle.run_opening.specs.log_opening.declared.refusals.LogsNo.{LogsNo}
use Rattle.protocol.specs.Events as machine
use Rattle.protocol.specs.Fixed.{Fixed}
use Rattle.solo_host.specs.run_effects.declared.stops.Stop.{Stop}
use Rattle.solo_host.specs.run_effects.declared.stops.Stop.TheVariants as stop
use Rattle.run_recovery.specs.Runs.{machine_of, meant}
use Rattle.run_recovery.specs.Schedules.{Schedule}
use Rattle.run_work.proofs.Ending.{StopsAtFault}
use Rattle.run_work.specs.Hosts.{IsCoreOf, StopsSo, HasHosted, HasStood}
use Rattle.run_work.specs.Runs.{Printing, reporting, summing, OutStoodOf}
use Rattle.run_work.specs.Untraced.{IsEnding, IsTraced, IsCallEnd, by_device}
use Rattle.run_work.specs.Writings.{Writing}
use Rattle.run_work.specs.declared.hosts.Hosted.{Hosted}
use Rattle.snap_core.specs.Cores.{CoreState}
use Rattle.snap_outside.proofs.AtFault.{calls_join}
use Rattle.snap_outside.specs.Causes.{EndsAtFault}
use Rattle.snap_outside.specs.declared.sinks.Sink.{Ghosts}
use Rattle.snap_report.specs.declared.statuses.Status.{Status}
use Rattle.snap_report.specs.declared.statuses.Status.TheVariants as status
use Rattle.snap_work.specs.Works.{Work}

-- ---- what is printed behind the replies

-- a log's fault is told beside a report alone
pub stood_alone : (p : Printing) (log : ℕ) → OutStoodOf p (status.LogFault log) → p ≡ summing
stood_alone reporting log stood = absurd (stood.1 log refl)
stood_alone summing log stood = refl

-- where the output failed before, and the host stopped for it or for a log, so it is behind
pub silent_so : (p : Printing) (failed : Bool) (by : Stop) (P : Type 0) → (failed ≡ true → (log : ℕ) → by ≡ stop.LogFault log → P) → (by ≡ stop.OutFault → P) → StopsSo p failed by → failed ≡ true → P
silent_so summing failed by P log out so is = absurd (true≢false (sym is ∙ so))
silent_so reporting failed stop.Quiet P log out so is = absurd (true≢false (sym is ∙ so))
silent_so reporting failed (stop.LogFault l) P log out so is = log is l refl
silent_so reporting failed stop.OutFault P log out so is = out refl
silent_so reporting failed stop.Memory P log out so is = absurd (true≢false (sym is ∙ so))

-- it stopped so too where a log is named by its device
pub stops_on : (p : Printing) (failed : Bool) (head : ℕ) (by : Stop) → StopsSo p failed by → StopsSo p failed (by_device head by)
stops_on summing failed head by so = so
stops_on reporting failed head stop.Quiet so = so
stops_on reporting failed head (stop.LogFault log) so = so
stops_on reporting failed head stop.OutFault so = so
stops_on reporting failed head stop.Memory so = so

-- and the core is the same
pub core_on : (m : Fixed Rest) (es : List machine.Event) (head : ℕ) (by named : Stop) (core : Option CoreState) → named ≡ by_device head by → IsCoreOf m es by core → IsCoreOf m es named core
core_on m es head by named None is none = is ∙ ap (λ (x : Stop). by_device head x) none
core_on m es head by named (Some core) is there = there

-- ---- the trace

-- it changes nothing but that all was done
other : (trace : Writing) (kept : List Event) (before after : Status) → IsTraced trace kept before after → before ≢ status.Done → after ≡ before
other trace kept before after (inl (same, whole)) not = same
other trace kept before after (inr (front, others, done)) not = others not

no_out : (trace : Writing) (kept : List Event) (before after : Status) → IsTraced trace kept before after → after ≢ status.OutFault → before ≢ status.OutFault
no_out trace kept before after is none = λ e. none (other trace kept before after is (λ d. cc (e, d)) ∙ e)

pub traced_stood : (p : Printing) (trace : Writing) (kept : List Event) (before after : Status) → IsTraced trace kept before after → OutStoodOf p after → OutStoodOf p before
traced_stood reporting trace kept before after is stood = (
  no_out trace kept before after is stood.0,
  λ log e. stood.1 log (other trace kept before after is (λ d. cc (e, d)) ∙ e),
)
traced_stood summing trace kept before after is stood = no_out trace kept before after is stood

-- ---- a call

-- where the output failed at the line of a reply the status tells that it, or a log, failed
not_stood : (p : Printing) (m : Fixed Rest) (es : List machine.Event) (count : ℕ) (by : Stop) (out : Writing) (before : Status) → StopsSo p true by → IsEnding p m es count by out before → ¬ OutStoodOf p before
not_stood summing m es count by out before so ending stood = true≢false so
not_stood reporting m es count stop.Quiet out before so ending stood = true≢false so
not_stood reporting m es count (stop.LogFault log) out before so ending stood = stood.1 log ending.0
not_stood reporting m es count stop.OutFault out before so ending stood = stood.0 ending.0
not_stood reporting m es count stop.Memory out before so ending stood = true≢false so

-- of the calls of a host, and then of those that come behind the replies
module _
    {O : Type 0} (tells : Ghosts O) (first then last : O)
    (p : Printing) (w : Work) (schedule : Schedule) (before after : List Device) (replies : Writing) (count : ℕ) (events : List Event) (out trace : Writing) (s : Status)
  where
    abbrev Once : Type 0 → O → O → Type 0
    Once fine x y = EndsAtFault fine (tells.faults x) (tells.late x) (tells.faults y) (tells.late y)

    pub call_once : (ran : Result Hosted LogsNo) → HasHosted p w schedule before after replies ran → IsCallEnd p ran count events out trace s → StopsAtFault p ran (last ≡ then)
        → Once (HasStood ran) first then → Once (OutStoodOf p s) then last → Once (OutStoodOf p s) first last
    call_once (Err why) is end silent host behind = calls_join (tells.faults first) (tells.late first) (tells.faults then) (tells.late then) (tells.faults last) (tells.late last) tt host behind
    call_once (Ok h) is end silent host behind = elim (cases_Bool h.failed) [
      | inl failed ↦
          let same : last ≡ then = silent is.made.stops failed in
          let so : StopsSo p true (by_device h.head h.stop) = stops_on p true h.head h.stop (subst (λ (x : Bool). StopsSo p x h.stop) failed is.made.stops) in
          let ending = end.untraced.ending (machine_of w is.opening) is.made.core in
          record {
            quiet = λ stood. absurd (not_stood p (machine_of w is.opening) (meant h.kept.items) count (by_device h.head h.stop) out end.before so ending (traced_stood p trace events end.before s end.traced stood));
            none_late = λ none. ap tells.late same ∙ host.none_late none;
          }
      | inr stood ↦ calls_join (tells.faults first) (tells.late first) (tells.faults then) (tells.late then) (tells.faults last) (tells.late last) stood host behind
    ]
