use Rattle.std.proofs.Common.{arith, map}
use Rattle.snap_base.proofs.Lists.{all_step}
use Rattle.aml_check.specs.Checked.{methods_of}
use Rattle.machine_recovery.proofs.Programs.{all_of_them}
use Rattle.followed_meant.proofs.Meant.{OfPrograms, go_on, tell}
use Rattle.followed_meant.proofs.laws.followers_tell_meant_states.Goals as goal

pub returns-clause-tell : goal.returns-clause-tell
returns-clause-tell c =
    let ps = c.args.programs.now in
    tell (map methods_of ps) (all_of_them methods_of OfPrograms ps c.loop-program.program-index (omega (arith, c.loop-program-test.false)) c.loop-program.invariant) c.followers_tell_serial_states.ensures

pub returns-clause-go_on : goal.returns-clause-go_on
returns-clause-go_on c =
    let ps = c.args.programs.now in
    go_on (map methods_of ps) (all_of_them methods_of OfPrograms ps c.loop-program.program-index (omega (arith, c.loop-program-test.false)) c.loop-program.invariant) c.followers_are_not_refused.ensures

pub loop-program-preserved : goal.loop-program-preserved
loop-program-preserved c =
    all_step (λ p. OfPrograms (methods_of p)) c.args.programs.now c.loop-program.program-index c.program-item.result c.loop-program-test.true c.program-item.is c.loop-program.invariant
    (record { facts = c.texts_have_the_facts.ensures; sets = c.sets_are_as_meant.ensures })
