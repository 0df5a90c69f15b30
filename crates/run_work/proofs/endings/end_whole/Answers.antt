use Rattle.std.proofs.Common.{◌≡◌, Option, Some, map, refl, sym, subst}
use Rattle.std.proofs.KnownBytes.{Keeps-refl}
use Rattle.snap_core.specs.aml_slice.Controls.{Rest}
use Rattle.snap_core.specs.core_events.Meant.{event_meant}
use Rattle.protocol.specs.Fixed.{Fixed}
use Rattle.run_work.proofs.endings.end_whole.Goals as goal
use Rattle.run_work.specs.Hosts.{IsCoreOf}
use Rattle.run_work.specs.Printings.{printing_of}
use Rattle.run_work.specs.Untraced.{IsEnding}
use Rattle.run_work.specs.Writings.{Writing, writing_of}
use Rattle.snap_core.specs.Cores.{CoreState}
use Rattle.snap_report.specs.declared.statuses.Status.TheVariants as status
use Rattle.solo_host.specs.run_effects.declared.stops.Stop.{Stop}
use Rattle.solo_host.specs.run_effects.declared.stops.Stop.TheVariants as stop

pub returns-in-Some-clause-ending : goal.returns-in-Some-clause-ending
returns-in-Some-clause-ending g c = λ m is.
    let out : Writing = writing_of g.O.Sink c.args.out.now c.tell.new.out in
    let known : IsCoreOf m (map event_meant c.args.kept.now) c.args.stop (Some c.in-Some.core) =
    subst (λ (core : Option CoreState). IsCoreOf m (map event_meant c.args.kept.now) c.args.stop core) c.in-Some.is is in
    subst (λ (x : Fixed Rest). IsEnding (printing_of c.args.told) x (map event_meant c.args.kept.now) c.args.count c.args.stop out c.tell.result) known.0 c.tell.ensures.ending

pub returns-in-None-clause-ending : goal.returns-in-None-clause-ending
returns-in-None-clause-ending g c = λ m is.
    let out : Writing = writing_of g.O.Sink c.args.out.now c.args.out.now in
    let known : c.args.stop ≡ stop.Memory = subst (λ (core : Option CoreState). IsCoreOf m (map event_meant c.args.kept.now) c.args.stop core) c.in-None.is is in
    subst (λ (by : Stop). IsEnding (printing_of c.args.told) m (map event_meant c.args.kept.now) c.args.count by out status.Memory) (sym known) (refl, Keeps-refl _)
