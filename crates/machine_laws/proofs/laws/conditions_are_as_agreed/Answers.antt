use Rattle.aml_check.specs.Checked.{methods_of}
use Rattle.machine_laws.specs.Programs.{with_code, finish_of}
use Rattle.machine_laws.proofs.Instances.{facts_of_text}
use Rattle.machine_laws.proofs.laws.conditions_are_as_agreed.Goals as goal

pub returns : goal.returns
returns c w es is run = let p = methods_of c.args.program.now in c.conditions_are_as_agreed.ensures (with_code p w) (finish_of p w) es (facts_of_text p w c.code_has_the_facts.ensures is) is.accepted run
