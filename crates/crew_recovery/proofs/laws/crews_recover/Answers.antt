use Rattle.std.proofs.Common.{◌≡◌, ℕ, ◌<◌, List, sym, ap, subst}
use Rattle.aml_slice.specs.Controls.{Rest}
use Rattle.aml_slice.specs.aml_check.Checked.{methods_of}
use Rattle.aml_slice.specs.aml_tree.Tree.{CheckedMethod}
use Rattle.crew_parts.specs.Crews.{kept}
use Rattle.crew_parts.specs.Outputs.{OutputStands, taken_at}
use Rattle.protocol.specs.Events.{Event}
use Rattle.protocol.specs.Fixed.{Fixed}
use Rattle.run_recovery.specs.Crashes.{Recovers}
use Rattle.run_recovery.specs.OneRun.{machine_in}
use Rattle.run_recovery.specs.Schedules.{free}
use Rattle.run_recovery.specs.Several.{members_left}
use Rattle.snap_work.specs.Works.{Work}
use Rattle.crew_recovery.proofs.LinesTold.{told_among}
use Rattle.crew_recovery.proofs.StepsRecovered.{crash_there, its_work, machine_is, placed}
use Rattle.crew_recovery.proofs.laws.crews_recover.Goals as goal

pub returns : goal.returns
returns g c r start s u told taken images now end begins later limits is tells takes cut =
    let t = c.args.tables.now in
    let come = c.acts_are_runs.ensures start end.history end.parts begins end.run in
    let at = c.devices_stand_at_moments.ensures start s u told now end begins later (λ l lt. tells l (subst (λ (n : ℕ). l < n) (ap (λ (w : Work). w.logs) is.work) lt)) in
    let p = placed r t start s u told now end is at in
    let program : methods_of t.work.program ≡ r.work.program = ap (λ (w : Work). w.program) is.work in
    let left = subst (λ (q : List CheckedMethod). Recovers q r p.moment images) program
    (c.runs_are_recovered.ensures r.work free r.opening r.events r.failed r.before r.after (sym program) limits (its_work r t start end.history end.parts is c.requires come.run) p.moment images (crash_there r (kept now.history) told images p cut)) in
    let output = subst (λ (es : List Event). OutputStands (machine_in r) es (taken_at start) taken) (sym p.so_far)
    (subst (λ (w : Fixed Rest). OutputStands w (kept now.history) (taken_at start) taken) (machine_is r t start end.history end.parts is) (c.output_stands_at_moments.ensures start s u taken now begins takes)) in
    record {
      moment = p.moment;
      so_far = p.so_far;
      recovers = left;
      output = output;
      told = told_among (machine_in r) p.moment.events (members_left left) left.stands.acknowledged (taken_at start) taken output;
    }
