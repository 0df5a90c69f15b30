use Rattle.std.proofs.Common.{◌≡◌, ℕ, inl, List, [], map, refl, sym, subst}
use Rattle.std.proofs.KnownBytes.{Appends-nil}
use Rattle.snap_core.specs.aml_slice.Controls.{Rest}
use Rattle.snap_core.specs.core_events.Meant.{event_meant}
use Rattle.protocol.specs.Events as machine
use Rattle.protocol.specs.Fixed.{Fixed}
use Rattle.solo_host.specs.run_effects.declared.stops.Stop.{Stop}
use Rattle.solo_host.specs.run_effects.declared.stops.Stop.TheVariants as stop
use Rattle.run_work.proofs.endings.end_hosted.Goals as goal
use Rattle.run_work.specs.Printings.{printing_of}
use Rattle.run_work.specs.Runs.{Printing, unsure_by}
use Rattle.run_work.specs.Untraced.{IsEnding}
use Rattle.run_work.specs.Writings.{Writing, Writes, writing_of}
use Rattle.snap_report.specs.declared.statuses.Status.TheVariants as status

-- nobody is told
untold : (p : Printing) (m : Fixed Rest) (es : List machine.Event) (count log : ℕ) (by : Stop) (out : Writing) → by ≡ stop.LogFault log → Writes out []
    → IsEnding p m es count by out (status.LogFault log)
untold p m es count log by out is nothing =
    subst (λ (x : Stop). IsEnding p m es count x out (status.LogFault log)) (sym is) (refl, inl ([], unsure_by p es count, refl, nothing))

pub returns-in-LogFault-true-clause-ending : goal.returns-in-LogFault-true-clause-ending
returns-in-LogFault-true-clause-ending g c = λ m is.
    let out : Writing = writing_of g.O.Sink c.args.out.now c.args.out.now in
    untold (printing_of c.args.told) m (map event_meant c.args.kept.now) c.args.count c.in-LogFault-true.log c.args.stop out c.in-LogFault-true.is-0 (Appends-nil _)
