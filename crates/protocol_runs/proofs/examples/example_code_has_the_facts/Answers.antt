use Rattle.protocol_runs.proofs.ExampleFacts.{example_facts}
use Rattle.protocol_runs.proofs.examples.example_code_has_the_facts.Goals as goal

pub returns : goal.returns
returns c = example_facts
