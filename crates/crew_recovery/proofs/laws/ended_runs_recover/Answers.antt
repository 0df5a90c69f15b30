use Rattle.std.proofs.Common.{List, sym, subst}
use Rattle.aml_slice.specs.aml_tree.Tree.{CheckedMethod}
use Rattle.crew_parts.specs.Outputs.{OutputStands}
use Rattle.protocol.specs.Events.{Event}
use Rattle.run_recovery.specs.Crashes.{Recovers}
use Rattle.run_recovery.specs.OneRun.{machine_in, the_run}
use Rattle.run_recovery.specs.Several.{members_left}
use Rattle.crew_recovery.specs.Cuts.{told_after}
use Rattle.crew_recovery.proofs.EndsRecovered.{placed_last}
use Rattle.crew_recovery.proofs.LinesTold.{told_among}
use Rattle.crew_recovery.proofs.StepsRecovered.{crash_there}
use Rattle.crew_recovery.proofs.laws.ended_runs_recover.Goals as goal

pub returns : goal.returns
returns c w schedule o es failed before after untaken taken images program limits run cut output =
    let r = the_run run in
    let p = placed_last r in
    let left = subst (λ (q : List CheckedMethod). Recovers q r p.moment images) (sym program)
    (c.runs_are_recovered.ensures w schedule o es failed before after program limits run p.moment images (crash_there r es (told_after r) images p cut)) in
    let stands = subst (λ (ds : List Event). OutputStands (machine_in r) ds untaken taken) (sym p.so_far) output in
    record {
      moment = p.moment;
      so_far = p.so_far;
      recovers = left;
      output = stands;
      told = told_among (machine_in r) p.moment.events (members_left left) left.stands.acknowledged untaken taken stands;
    }
