use Rattle.aml_check.specs.Checked.{methods_of}
use Rattle.machine_laws.specs.Programs.{with_code, finish_of}
use Rattle.machine_recovery.proofs.laws.logs_fold_to_the_members.Goals as goal

pub returns : goal.returns
returns c w es m kept earlier f is run left many before begins =
    let p = methods_of c.args.program.now in
    c.logs_fold_to_the_members.ensures (with_code p w) (finish_of p w) es m kept earlier f (c.texts_have_the_facts.ensures w is) is.accepted run left many before begins
