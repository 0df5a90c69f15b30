use Rattle.std.proofs.Common.{arith, map}
use Rattle.snap_base.proofs.Lists.{all_step}
use Rattle.aml_check.specs.Checked.{methods_of}
use Rattle.machine_laws.specs.Programs.{TextsHaveFacts}
use Rattle.machine_recovery.specs.OnLogs.{as_cut_run}
use Rattle.machine_recovery.proofs.Programs.{all_of_them, go_on}
use Rattle.machine_recovery.proofs.laws.logs_recover_behind_each_run.Goals as goal

pub returns : goal.returns
returns c earlier o xs h go =
    let ps = c.args.programs.now in
    let all = all_of_them methods_of TextsHaveFacts ps c.loop-program.program-index (omega (arith, c.loop-program-test.false)) c.loop-program.invariant in
    c.logs_recover_behind_each_run.ensures earlier o (map as_cut_run xs) h (go_on (map methods_of ps) earlier o xs all go)

pub loop-program-preserved : goal.loop-program-preserved
loop-program-preserved c = all_step (λ p. TextsHaveFacts (methods_of p)) c.args.programs.now c.loop-program.program-index c.program-item.result c.loop-program-test.true c.program-item.is c.loop-program.invariant c.texts_have_the_facts.ensures
