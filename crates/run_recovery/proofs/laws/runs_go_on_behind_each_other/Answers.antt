use Rattle.std.proofs.Common.{arith, map}
use Rattle.snap_base.proofs.Lists.{all_step}
use Rattle.aml_slice.specs.aml_check.Checked.{methods_of}
use Rattle.machine_recovery.proofs.Programs.{all_of_them}
use Rattle.run_recovery.proofs.SeveralRuns.{AreRecovered, go_on_behind}
use Rattle.run_recovery.proofs.laws.runs_go_on_behind_each_other.Goals as goal

pub returns : goal.returns
returns c xs of_them behind =
    let ps = c.args.programs.now in
    let all = all_of_them methods_of AreRecovered ps c.loop-program.program-index (omega (arith, c.loop-program-test.false)) c.loop-program.invariant in
    go_on_behind (record {
      begin = c.beginnings_are_recovered.ensures;
      go_on = c.crashed_runs_go_on.ensures;
      fold = c.one_fold.ensures;
      written = c.begun_lists_fold.ensures;
      begun = c.folds_are_begun.ensures;
      list = c.one_list_of_records.ensures;
      sets = record { one = c.one_use.ensures; tell = c.fronts_tell.ensures; fronts = c.fronts_of_records.ensures; clear = c.clearing_keeps.ensures; begin = c.begun_is_set.ensures };
      calls = c.calls_between_runs_lose_nothing.ensures;
    }) (map methods_of ps) all xs of_them behind

pub loop-program-preserved : goal.loop-program-preserved
loop-program-preserved c = all_step (λ p. AreRecovered (methods_of p)) c.args.programs.now c.loop-program.program-index c.program-item.result c.loop-program-test.true c.program-item.is c.loop-program.invariant c.runs_are_recovered.ensures
