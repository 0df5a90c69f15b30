use Rattle.aml_check.specs.Checked.{methods_of}
use Rattle.machine_laws.specs.Programs.{with_code, finish_of}
use Rattle.machine_laws.proofs.Instances.{facts_of_text}
use Rattle.machine_laws.proofs.actors.readers_see_the_state.Goals as goal

pub returns : goal.returns
returns c w es is run = let p = methods_of c.args.program.now in c.readers_see_the_state.ensures (with_code p w) (finish_of p w) es (facts_of_text p w c.code_has_the_facts.ensures is) is.accepted run
