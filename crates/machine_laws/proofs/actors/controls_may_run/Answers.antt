use Rattle.aml_check.specs.Checked.{methods_of}
use Rattle.protocol.specs.Runs.{reached}
use Rattle.protocol.specs.History.{history}
use Rattle.machine_laws.specs.Programs.{with_code, finish_of}
use Rattle.machine_laws.proofs.Instances.{facts_of_text}
use Rattle.machine_laws.proofs.RestsMeant as rests
use Rattle.machine_laws.proofs.actors.controls_may_run.Goals as goal

pub returns : goal.returns
returns c w es is run =
    let p = methods_of c.args.program.now in
    rests.controls_may_run p w c.code_has_the_facts.ensures is (finish_of p w) (reached (with_code p w) es) (history (with_code p w) es)
    (c.controls_are_rests.ensures (with_code p w) (finish_of p w) es (facts_of_text p w c.code_has_the_facts.ensures is) is.accepted run)
