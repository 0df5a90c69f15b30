use Rattle.std.proofs.Common.{◌≡◌, List, map, Result, refl, sym, subst}
use Rattle.snap_core.specs.core_events.declared.events.Event.{Event}
use Rattle.snap_core.specs.core_events.Meant.{event_meant}
use Rattle.solo_host.specs.run_effects.declared.stops.Stop.{Stop}
use Rattle.run_opening.specs.log_opening.declared.refusals.LogsNo.{LogsNo}
use Rattle.run_recovery.specs.Runs.{meant}
use Rattle.run_work.proofs.AtFault.{core_on, silent_so, stops_on}
use Rattle.run_work.proofs.Ending.{StopsAtFault}
use Rattle.run_work.proofs.endings.end_untraced.Goals as goal
use Rattle.run_work.specs.Hosts.{IsCoreOf, StopsSo}
use Rattle.run_work.specs.Printings.{printing_of}
use Rattle.run_work.specs.Untraced.{IsEnding, EndsUntraced}
use Rattle.run_work.specs.Writings.{Writing, writing_of}
use Rattle.run_work.specs.declared.hosts.Hosted.{Hosted}

pub returns-in-Ok-clause-ended : goal.returns-in-Ok-clause-ended
returns-in-Ok-clause-ended g c =
    let p = printing_of c.args.told in
    let h = c.in-Ok.hosted in
    let out : Writing = writing_of g.O.Sink c.args.out.now c.end_hosted-status.new.out in
    let s = c.end_hosted-status.result in
    subst (λ (ran : Result Hosted LogsNo). EndsUntraced p ran c.args.count h.kept.items out s) (sym c.in-Ok.is) (record {
      same = refl;
      ending = subst (λ (by : Stop). (m : _) → IsCoreOf m (meant h.kept.items) h.stop h.core → IsEnding p m (meant h.kept.items) c.args.count by out s) c.on_device-stop.ensures
          (subst (λ (kept : List Event). (m : _) → IsCoreOf m (meant kept) h.stop h.core → IsEnding p m (meant kept) c.args.count c.on_device-stop.result out s) c.as_slice.ensures.value
          (λ m is. c.end_hosted-status.ensures.ending m (core_on m (map event_meant c.as_slice.result.now) h.head h.stop c.on_device-stop.result h.core c.on_device-stop.ensures is)));
      later = c.end_hosted-status.ensures.later;
    })

pub returns-in-Ok-clause-silent : goal.returns-in-Ok-clause-silent
returns-in-Ok-clause-silent g c =
    let p = printing_of c.args.told in
    let h = c.in-Ok.hosted in
    subst (λ (ran : Result Hosted LogsNo). StopsAtFault p ran (c.end_hosted-status.new.out ≡ c.args.out.now)) (sym c.in-Ok.is)
    (λ so. silent_so p h.failed c.on_device-stop.result (c.end_hosted-status.new.out ≡ c.args.out.now) c.end_hosted-status.ensures.silent c.end_hosted-status.ensures.stopped
    (subst (λ (by : Stop). StopsSo p h.failed by) (sym c.on_device-stop.ensures) (stops_on p h.failed h.head h.stop so)))

pub returns-in-Err-clause-ended : goal.returns-in-Err-clause-ended
returns-in-Err-clause-ended g c =
    let out : Writing = writing_of g.O.Sink c.args.out.now c.not_begun.new.out in
    subst (λ (ran : Result Hosted LogsNo). EndsUntraced (printing_of c.args.told) ran c.args.count c.new.result.items out c.not_begun.result) (sym c.in-Err.is)
    (c.new.ensures.items, c.not_begun.ensures.status, c.not_begun.ensures.told)
