use Rattle.aml_check.specs.Checked.{methods_of}
use Rattle.machine_laws.proofs.Instances.{facts_of_text}
use Rattle.machine_laws.proofs.texts.texts_have_the_facts.Goals as goal

pub returns : goal.returns
returns c w is = facts_of_text (methods_of c.args.program.now) w c.code_has_the_facts.ensures is
